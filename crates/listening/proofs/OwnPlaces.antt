-- Where a frame has the records that a station sends, the places of its records tell what the
-- station holds: of each station that it holds a record of, where that record begins, and 0 of any
-- other. By induction over the stations, for a frame has the held records in their order.
use Prim.Native.Nat.{ℕ, zero, suc, ◌+◌, ◌≤◌, ◌<◌}
use native.Mathlib.Decide.{ℕ_discrete}
use native.Mathlib.Nat.{add-zero}
use native.Mathlib.Numerals.{add-one}
use native.Mathlib.Omega.{arith}
use mathlib.Core.Bool.{Bool, true, false, cond, true≢false}
use mathlib.Core.List.{List, [], ◌∷◌, append-nil}
use mathlib.Core.Path.{◌≡◌, refl, sym, ap, ◌∙◌}
use lib.ListN.{get_or, length, length-set, length-append, replicate, get_or-replicate, get_or-append}
use lib.Seq.{get_or_at, get_or-set_same, get_or-set_other}
use Rattle.lists.specs.Below.{filter_map}
use Rattle.frame_spec.specs.declared.Record.{Record}
use Rattle.frame_spec.specs.Record.{no_record}
use Rattle.listening.specs.OwnPlaces.{record_place, places_of}

-- the entry of a place that passes comes after those of the places before it
module _ {A : Type 0} (test : ℕ → Bool) (f : ℕ → A) (d : A) where
  pub filter_map_entry :
      (n k : ℕ) → k < n → test k ≡ true →
      (length (filter_map k test f) < length (filter_map n test f)) × (get_or (filter_map n test f) (length (filter_map k test f)) d ≡ f k)
  unfolding filter_map
  filter_map_entry zero k l e = absurd (omega arith)
  filter_map_entry (suc n) k l e =
      elim (ℕ_discrete k n) [
        | yes z ↦
            rw (z, sym (ap test z) ∙ e)
            (omega (arith, length-append (filter_map n test f) (f n ∷ [])), get_or_at (filter_map n test f) (f n) [] d (length (filter_map n test f)) refl)
        | no z ↦
            (let before = filter_map_entry n k (omega arith) e in (
              omega (arith, before.0, length-append (filter_map n test f) (cond (test n) (f n ∷ []) [])),
              get_or-append (filter_map n test f) (cond (test n) (f n ∷ []) []) d (length (filter_map k test f)) before.0 ∙ before.1,
            ))
      ]

  pub filter_map_step : (k : ℕ) (t : Bool) → test k ≡ t → length (filter_map (suc k) test f) ≡ length (filter_map k test f) + cond t 1 0
  unfolding filter_map
  filter_map_step k true e = rw e (length-append (filter_map k test f) (f k ∷ []))
  filter_map_step k false e = rw (e, append-nil (filter_map k test f)) (omega arith)

module _ (bytes : List ℕ) (start n : ℕ) (high : n ≤ 16) (held : ℕ → Bool) (f : ℕ → Record) where
  abbrev before : ℕ → ℕ
  before k = length (filter_map k held f)

  -- the frame's records are the held ones, each of the station of its place
  pub record Holds : Type 0 where
    pub station : (k : ℕ) → k < n → held k ≡ true → get_or bytes (record_place start (before k)) 0 ≡ k

  -- the records of the stations below m are placed
  pub record Placed (m : ℕ) (places : List ℕ) : Type 0 where
    pub long : length places ≡ 16
    pub here : (k : ℕ) → k < m → held k ≡ true → get_or places k 0 ≡ record_place start (before k)
    pub none : (k : ℕ) → k < m → held k ≡ false → get_or places k 0 ≡ 0
    pub above : (k : ℕ) → m ≤ k → k < 16 → get_or places k 0 ≡ 0

  abbrev up_to : ℕ → List ℕ
  up_to m = places_of bytes start (replicate 16 0) (before m)

  placed_none : Placed 0 (up_to 0)
  unfolding places_of filter_map
  placed_none =
      record {
        long = refl;
        here = λ k l e. absurd (omega arith);
        none = λ k l e. absurd (omega arith);
        above = λ k l b. get_or-replicate 16 k 0 0 b;
      }

  module _ (holds : Holds) where
    placed_more : (m : ℕ) → m < n → Placed m (up_to m) → Placed (suc m) (up_to (suc m))
    unfolding places_of
    placed_more m l c = go (held m) refl
      where
        go : (t : Bool) → held m ≡ t → Placed (suc m) (up_to (suc m))
        go true e =
            let at = record_place start (before m) in
            rw (filter_map_step held f no_record m true e, add-one (before m), holds.station m l e)
            (record {
              long = length-set (up_to m) m at ∙ c.long;
              here =
                  λ k b h.
                  elim (ℕ_discrete k m) [
                    | yes z ↦ rw z (get_or-set_same (up_to m) m at 0 (omega (arith, c.long)))
                    | no z ↦ get_or-set_other (up_to m) m k at 0 z ∙ c.here k (omega arith) h
                  ];
              none =
                  λ k b h.
                  elim (ℕ_discrete k m) [
                    | yes z ↦ absurd (true≢false (sym e ∙ ap held (sym z) ∙ h))
                    | no z ↦ get_or-set_other (up_to m) m k at 0 z ∙ c.none k (omega arith) h
                  ];
              above = λ k b w. get_or-set_other (up_to m) m k at 0 (λ z. absurd (omega arith)) ∙ c.above k (omega arith) w;
            })
        go false e =
            rw (filter_map_step held f no_record m false e, add-zero (before m))
            (record {
              long = c.long;
              here =
                  λ k b h.
                  elim (ℕ_discrete k m) [
                    | yes z ↦ absurd (true≢false (sym h ∙ ap held z ∙ e))
                    | no z ↦ c.here k (omega arith) h
                  ];
              none =
                  λ k b h.
                  elim (ℕ_discrete k m) [
                    | yes z ↦ rw z (c.above m (omega arith) (omega arith))
                    | no z ↦ c.none k (omega arith) h
                  ];
              above = λ k b w. c.above k (omega arith) w;
            })

    placed : (m : ℕ) → m ≤ n → Placed m (up_to m)
    placed zero l = placed_none
    placed (suc m) l = placed_more m l (placed m (omega arith))

    pub placed_all : Placed n (up_to n)
    placed_all = placed n (omega arith)
