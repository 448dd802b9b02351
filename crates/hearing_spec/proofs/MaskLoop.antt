-- The loop over a mask. Its invariant at j: the frames of the senders below j are heard, and none
-- of them was refused. A refused frame decides, for none is heard after it.
use Prim.Native.Nat.{ℕ, zero, suc, ◌+◌, ◌-◌, ◌<◌, ◌≤◌}
use mathlib.Core.Bool.{Bool, true, false, cond}
use mathlib.Core.List.{List}
use mathlib.Core.Path.{◌≡◌, sym, ap, subst, ◌∙◌}
use native.Mathlib.Nat.{zero-add, suc-add}
use native.Mathlib.Omega.{arith}
use borrow.Author.Tests.{lt-ltb}
use Rattle.bodies.specs.Refusals.{done}
use Rattle.links.specs.Log.{hears_in}
use lib.ListN.{get_or}
use Rattle.station_spec.specs.declared.Station.{Station}
use Rattle.station_spec.specs.Hearing.{Hearing, hear_frame}
use Rattle.station_spec.proofs.FrameConflicts.{refused_stays}
use Rattle.hearing_spec.specs.Buffer.{size_in, frame_start, records_at, hears_sender, hear_senders}
use Rattle.hearing_spec.specs.StandsFor.{Notes, Stands}
use Rattle.hearing_spec.specs.Room.{Room, LastRoom}
use Rattle.hearing_spec.specs.Promises.{Named, HearsFrame, HearsMask}

-- the sender is heard where the round's masks say so
pub sender_heard :
    (n : ℕ) (masks : List ℕ) (i j : ℕ) → i < n → j < n → hears_sender i (get_or masks i 0) j ≡ hears_in n masks i j
unfolding hears_in
sender_heard n masks i j a b = rw (lt-ltb i n a, lt-ltb j n b)

pub senders_stay :
    (h : Hearing) (bytes : List ℕ) (own mask j d : ℕ) → ((hear_senders h bytes own mask j).refusal ≡ done → ⊥) →
    hear_senders h bytes own mask (d + j) ≡ hear_senders h bytes own mask j
unfolding hear_senders
senders_stay h bytes own mask j zero ne = rw zero-add
senders_stay h bytes own mask j (suc d) ne =
    rw (suc-add d j) (go (hears_sender own mask (d + j)) (senders_stay h bytes own mask j d ne))
  where
    go :
        (t : Bool) → hear_senders h bytes own mask (d + j) ≡ hear_senders h bytes own mask j →
        cond t (hear_frame (hear_senders h bytes own mask (d + j)) (records_at bytes (frame_start (d + j)))) (hear_senders h bytes own mask (d + j))
        ≡ hear_senders h bytes own mask j
    go true before = rw before (refused_stays (hear_senders h bytes own mask j) (records_at bytes (frame_start (d + j))) ne)
    go false before = before

-- the invariant at j, since the notes were x₀ and the places of the last records last₀
pub record MaskInv (own : ℕ) (bytes : List ℕ) (mask : ℕ) (last₀ : List ℕ) (x₀ : Notes) (last : List ℕ) (x : Notes) (j : ℕ) : Type 0 where
  pub many : j ≤ size_in bytes
  pub fine : x.ear.refusal ≡ done
  pub room : Room own bytes x
  pub last_room : LastRoom bytes last
  pub stands :
      (s : Station) (h : Hearing) → Named s (size_in bytes) own → Stands s bytes last₀ x₀ h → h.refusal ≡ done →
      Stands s bytes last x (hear_senders h bytes own mask j)

module _ (own : ℕ) (bytes : List ℕ) (mask : ℕ) (last₀ : List ℕ) (x₀ : Notes) where
  pub mask_first : x₀.ear.refusal ≡ done → Room own bytes x₀ → LastRoom bytes last₀ → MaskInv own bytes mask last₀ x₀ last₀ x₀ 0
  unfolding hear_senders
  mask_first fine room last = record { many = omega arith; fine = fine; room = room; last_room = last; stands = λ s h i c f. c }

  module _ (last : List ℕ) (x : Notes) (j : ℕ) (inv : MaskInv own bytes mask last₀ x₀ last x j) where
    -- all senders
    pub mask_end : size_in bytes ≤ j → HearsMask own bytes mask last₀ x₀ last x
    mask_end over = record { refusal = λ s h i c f. (here s h i c f).numbers.refusal; stands = λ s h i c f z. here s h i c f }
      where
        all : j ≡ size_in bytes
        all = omega (arith, inv.many)

        here :
            (s : Station) (h : Hearing) → Named s (size_in bytes) own → Stands s bytes last₀ x₀ h → h.refusal ≡ done →
            Stands s bytes last x (hear_senders h bytes own mask (size_in bytes))
        here s h i c f = subst (λ (m : ℕ). Stands s bytes last x (hear_senders h bytes own mask m)) all (inv.stands s h i c f)

    module _ (below : j < size_in bytes) where
      -- a sender that is not heard
      pub mask_silent : hears_sender own mask j ≡ false → MaskInv own bytes mask last₀ x₀ last x (suc j)
      unfolding hear_senders
      mask_silent no_bit =
          record {
            many = below;
            fine = inv.fine;
            room = inv.room;
            last_room = inv.last_room;
            stands = λ s h i c f. rw no_bit (inv.stands s h i c f);
          }

      module _ (last' : List ℕ) (y : Notes) (bit : hears_sender own mask j ≡ true) (does : HearsFrame own bytes (frame_start j) last x last' y) where
        sender_is : (h : Hearing) → hear_senders h bytes own mask (suc j) ≡ hear_frame (hear_senders h bytes own mask j) (records_at bytes (frame_start j))
        unfolding hear_senders
        sender_is h = rw bit

        calm :
            (s : Station) (h : Hearing) → Named s (size_in bytes) own → Stands s bytes last₀ x₀ h → h.refusal ≡ done →
            (hear_senders h bytes own mask j).refusal ≡ done
        calm s h i c f = sym (inv.stands s h i c f).numbers.refusal ∙ inv.fine

        -- a frame that is not refused
        pub mask_heard : y.ear.refusal ≡ done → Room own bytes y → LastRoom bytes last' → MaskInv own bytes mask last₀ x₀ last' y (suc j)
        mask_heard fine room last_room =
            record {
              many = below;
              fine = fine;
              room = room;
              last_room = last_room;
              stands =
                  λ s h i c f.
                  rw (sender_is h) (does.stands s (hear_senders h bytes own mask j) i (inv.stands s h i c f) (calm s h i c f) fine);
            }

        -- a refused frame
        pub mask_refused : (y.ear.refusal ≡ done → ⊥) → HearsMask own bytes mask last₀ x₀ last' y
        mask_refused bad = record { refusal = refusal; stands = λ s h i c f z. absurd (bad z) }
          where
            refusal :
                (s : Station) (h : Hearing) → Named s (size_in bytes) own → Stands s bytes last₀ x₀ h → h.refusal ≡ done →
                y.ear.refusal ≡ (hear_senders h bytes own mask (size_in bytes)).refusal
            refusal s h i c f =
                let here : y.ear.refusal ≡ (hear_senders h bytes own mask (suc j)).refusal =
                rw (sender_is h) (does.refusal s (hear_senders h bytes own mask j) i (inv.stands s h i c f) (calm s h i c f)) in
                let split : (size_in bytes - suc j) + suc j ≡ size_in bytes = omega (arith, below) in
                here
                ∙ ap (λ (g : Hearing). g.refusal) (sym (senders_stay h bytes own mask (suc j) (size_in bytes - suc j) (λ z. bad (here ∙ z))))
                ∙ ap (λ (m : ℕ). (hear_senders h bytes own mask m).refusal) split
