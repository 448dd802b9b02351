-- A round's frames as they are sent, station after station: one more written into its part of the
-- bytes leaves the frames before it, for their parts end where its part begins. Where no station is
-- refused, all frames stand.
use Prim.Native.Nat.{ℕ, ◌+◌, ◌*◌, ◌≤◌, ◌<◌}
use mathlib.Core.Bool.{true}
use mathlib.Core.List.{List, ◌++◌, append_assoc}
use mathlib.Core.Path.{◌≡◌, refl, sym, ap, subst, ◌∙◌}
use native.Mathlib.Decide.{ℕ_discrete}
use native.Mathlib.Omega.{arith}
use lib.ListN.{take, drop, length, length-take, length-drop, length-append, take-append-drop}
use lib.Seq.{length-take-le, take-append-le, drop-append-le, take_at, drop_at}
use borrow.Author.Tests.{le-ltb}
use Rattle.frame_spec.specs.Calls.{buffer_with}
use Rattle.lists.proofs.Laws.{all_below_at}
use Rattle.station_spec.specs.declared.Station.{Station}
use Rattle.station_spec.specs.Calls.{frame_of, own_count_inside}
use Rattle.group_spec.specs.State.{station_at, size_of, edition_of, member_inside, group_inside}
use Rattle.rounds.specs.Frames.{frames_room, FramesBelow, send_refusal, part_after, bytes_after, worse, judged_below}
use Rattle.group_spec.proofs.Members.{member_open}
use Rattle.group.proofs.GroupLimits.{group_judged}
use Rattle.rounds.proofs.SentFrame.{frame_fits}
use Rattle.rounds.proofs.SendSteps.{part_frame, length_after, worse_done, judged_none, judged_more, judged_right}

-- bytes that end by place a stay where what follows from a on is replaced
pub before_part :
    (m k a : ℕ) (bytes rest : List ℕ) → k + m ≤ a → a ≤ length bytes → take m (drop k (take a bytes ++ rest)) ≡ take m (drop k bytes)
before_part m k a bytes rest l h = front rest ∙ sym (front (drop a bytes)) ∙ ap (λ (b : List ℕ). take m (drop k b)) (take-append-drop a bytes)
  where
    front : (x : List ℕ) → take m (drop k (take a bytes ++ x)) ≡ take m (drop k (take a bytes))
    front x =
        let long : length (take a bytes) ≡ a = length-take-le a bytes h in
        ap (take m) (drop-append-le k (take a bytes) x (omega arith))
        ∙ take-append-le m (drop k (take a bytes)) x (omega (arith, length-drop k (take a bytes)))

-- the bytes with another part of station k
abbrev with_part : ℕ → List ℕ → List ℕ → List ℕ
with_part k bytes made = take (260 * k) bytes ++ (made ++ drop 260 (drop (260 * k) bytes))

abbrev part : ℕ → List ℕ → List ℕ
part k bytes = take 260 (drop (260 * k) bytes)

module _ (k : ℕ) (below : k < 16) (bytes : List ℕ) (long : length bytes ≡ frames_room) where
  part_length : length (part k bytes) ≡ 260
  part_length = omega (arith, length-take 260 (drop (260 * k) bytes), length-drop (260 * k) bytes)

  front_length : length (take (260 * k) bytes) ≡ 260 * k
  front_length = length-take-le (260 * k) bytes (omega arith)

  whole_length : (made : List ℕ) → length made ≡ 260 → length (with_part k bytes made) ≡ frames_room
  whole_length made e =
      let past = drop 260 (drop (260 * k) bytes) in
      omega (
        arith,
        length-append (take (260 * k) bytes) (made ++ past),
        length-append made past,
        front_length,
        length-drop 260 (drop (260 * k) bytes),
        length-drop (260 * k) bytes,
      )

module _ (g : List Station) where
  pub frames_none : (bytes : List ℕ) → length bytes ≡ frames_room → FramesBelow g 0 bytes
  frames_none bytes long = record { long = long; frame = λ k l. absurd (omega arith) }

  module _ (k : ℕ) (below : k < 16) (bytes : List ℕ) (old : FramesBelow g k bytes)
      (fit : (i : ℕ) → i ≤ k → length (frame_of (station_at g i)) ≤ 260) (made : List ℕ)
      (is : made ≡ buffer_with (frame_of (station_at g k)) (part k bytes)) where
    abbrev here : List ℕ
    here = frame_of (station_at g k)

    abbrev kept : List ℕ
    kept = drop (length here) (part k bytes)

    size : length (part k bytes) ≡ 260
    size = part_length k below bytes old.long

    made_is : made ≡ here ++ kept
    unfolding buffer_with
    made_is = is ∙ rw (le-ltb (length (part k bytes)) (length here) (omega (arith, size, fit k (omega arith))))

    made-length : length made ≡ 260
    made-length =
        ap length made_is ∙ length-append here kept ∙ omega (arith, length-drop (length here) (part k bytes), size, fit k (omega arith))

    this_frame : take (length here) (drop (260 * k) (with_part k bytes made)) ≡ here
    this_frame =
        let past = drop 260 (drop (260 * k) bytes) in
        ap (take (length here)) (drop_at (take (260 * k) bytes) (made ++ past) (260 * k) (front_length k below bytes old.long))
        ∙ ap (λ (m : List ℕ). take (length here) (m ++ past)) made_is
        ∙ ap (take (length here)) (append_assoc here kept past)
        ∙ take_at here (kept ++ past) (length here) refl

    pub frames_more : FramesBelow g (k + 1) (with_part k bytes made)
    frames_more =
        record {
          long = whole_length k below bytes old.long made made-length;
          frame =
              λ i l.
              elim (ℕ_discrete i k) [
                | yes e ↦ rw e this_frame
                | no d ↦
                    before_part (length (frame_of (station_at g i))) (260 * i) (260 * k) bytes _ (omega (arith, fit i (omega arith)))
                    (omega (arith, old.long))
                    ∙ old.frame i (omega arith)
              ];
        }

-- the stations below k are judged, and where none of them is refused their frames stand
pub record SentBelow (g : List Station) (k refusal : ℕ) (bytes : List ℕ) : Type 0 where
  pub long : length bytes ≡ frames_room
  pub judged : refusal ≡ judged_below g k
  pub frames : refusal ≡ 0 → FramesBelow g k bytes

module _ (g : List Station) where
  pub sent_none : (bytes : List ℕ) → length bytes ≡ frames_room → SentBelow g 0 0 bytes
  sent_none bytes long = record { long = long; judged = judged_none g; frames = λ e. frames_none g bytes long }

  fits_below : (m : ℕ) → judged_below g m ≡ 0 → (i : ℕ) → i < m → length (frame_of (station_at g i)) ≤ 260
  fits_below m e i l =
      let r = judged_right g m e in
      frame_fits (station_at g i) (member_open g i (all_below_at m (member_inside g) r.0 i l)).inside
      (all_below_at m (λ k. own_count_inside (station_at g k)) r.1 i l)

  module _ (k : ℕ) (below : k < 16) (refusal : ℕ) (bytes : List ℕ) (old : SentBelow g k refusal bytes)
      (after : List ℕ) (after_is : after ≡ bytes_after (edition_of g) (size_of g) k (station_at g k) bytes) (all : ℕ)
      (all_is : all ≡ worse refusal (send_refusal (edition_of g) (size_of g) k (station_at g k))) where
    abbrev made : List ℕ
    made = part_after (edition_of g) (size_of g) k (station_at g k) (part k bytes)

    after_length : length after ≡ frames_room
    after_length =
        ap length after_is
        ∙ whole_length k below bytes old.long made
        (length_after (edition_of g) (size_of g) k (station_at g k) (part k bytes) ∙ part_length k below bytes old.long)

    all_judged : all ≡ judged_below g (k + 1)
    all_judged = all_is ∙ ap (λ (r : ℕ). worse r (send_refusal (edition_of g) (size_of g) k (station_at g k))) old.judged ∙ judged_more g k

    all_frames : all ≡ 0 → FramesBelow g (k + 1) after
    all_frames e =
        let r = worse_done refusal (send_refusal (edition_of g) (size_of g) k (station_at g k)) (sym all_is ∙ e) in
        subst (FramesBelow g (k + 1)) (sym after_is)
        (frames_more g k below bytes (old.frames r.0)
        (λ i l. fits_below (k + 1) (sym all_judged ∙ e) i (omega arith))
        made (part_frame (edition_of g) (size_of g) k (station_at g k) (part k bytes) r.1))

    pub sent_more : SentBelow g (k + 1) all after
    sent_more = record { long = after_length; judged = all_judged; frames = all_frames }

-- no station is refused, and all frames stand
pub record AllSent (g : List Station) (bytes : List ℕ) : Type 0 where
  pub inside : group_inside g ≡ true
  pub counts : (k : ℕ) → k < size_of g → own_count_inside (station_at g k) ≡ true
  pub frames : FramesBelow g (size_of g) bytes

pub all_sent :
    (g : List Station) (k refusal : ℕ) (bytes : List ℕ) → SentBelow g k refusal bytes → k ≡ size_of g → 1 ≤ size_of g → refusal ≡ 0 →
    AllSent g bytes
all_sent g k refusal bytes sent e low done =
    let right = judged_right g (size_of g) (ap (judged_below g) (sym e) ∙ sym sent.judged ∙ done) in
    record {
      inside = group_judged g low ∙ right.0;
      counts = all_below_at (size_of g) (λ j. own_count_inside (station_at g j)) right.1;
      frames = subst (λ (m : ℕ). FramesBelow g m bytes) e (sent.frames done);
    }
