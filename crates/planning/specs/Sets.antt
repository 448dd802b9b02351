-- Sets of stations as 16-bit masks, sixteen sets a station: the set of s at p stands at place 16 p
-- + s. What each function makes of them.
use Rattle.std.specs.Prelude.{Bool, if◌then◌else◌, ◌&&◌, List, ◌≡◌, ℕ, zero, suc, ◌+◌, ◌-◌, ◌*◌}
use Rattle.std.specs.Prelude.{◌^◌, ◌<◌, ◌≤◌, ◌==◌, slice_index}
use Rattle.std.specs.Prelude.{length, set}
use Rattle.std.specs.Int.Bits.{bit_and, bit_or}
use Rattle.links.specs.Log.{bit}

-- so many sets: sixteen at each of sixteen stations
abbrev pub set_count : ℕ
set_count = 16 * 16

-- the highest number of 16 bits: a count of ends below it can be raised
abbrev pub highest_count : ℕ
highest_count = 65_535

abbrev pub cell : List ℕ → ℕ → ℕ → ℕ
cell sets p s = slice_index sets (16 * p + s)

-- The first n places become f, and all others stay.
pub record FirstAre (n : ℕ) (before after : List ℕ) (f : ℕ → ℕ) : Type 0 where
  pub size : length after ≡ length before
  pub first : (s : ℕ) → s < n → slice_index after s ≡ f s
  pub rest : (s : ℕ) → n ≤ s → slice_index after s ≡ slice_index before s

-- The first n places of the row of p become f, and all others stay.
pub record RowIs (n : ℕ) (before after : List ℕ) (p : ℕ) (f : ℕ → ℕ) : Type 0 where
  pub size : length after ≡ length before
  pub row : (s : ℕ) → s < n → cell after p s ≡ f s
  pub rest : (q s : ℕ) → s < 16 → (q ≡ p → n ≤ s) → cell after q s ≡ cell before q s

-- The first n places of the column of s become f, and all others stay.
pub record ColumnIs (n : ℕ) (before after : List ℕ) (s : ℕ) (f : ℕ → ℕ) : Type 0 where
  pub size : length after ≡ length before
  pub column : (p : ℕ) → p < n → cell after p s ≡ f p
  pub rest : (p q : ℕ) → q < 16 → (q ≡ s → n ≤ p) → cell after p q ≡ cell before p q

-- x united with f j for each j below n that is heard.
unfoldable pub united : ℕ → (ℕ → Bool) → (ℕ → ℕ) → ℕ → ℕ
united zero heard f x = x
united (suc k) heard f x = if heard k then bit_or (united k heard f x) (f k) else united k heard f x

-- A set of s at p, with p itself where the set has s.
unfoldable pub with_receiver : ℕ → ℕ → ℕ → ℕ
with_receiver p s x = if bit x s then bit_or x (2 ^ p) else x

-- What a round makes of the set of s at p, before the ends are looked at: the sets of those in its
-- mask, as they stood, are united. Its own bit adds nothing.
unfoldable pub learnt_set : ℕ → (ℕ → ℕ) → List ℕ → ℕ → ℕ → ℕ
learnt_set n mask sets p s = with_receiver p s (united n (bit (mask p)) (λ j. cell sets j s) (cell sets p s))

-- The rows below done are those that a round makes, and the others stay.
pub record Learnt (done n : ℕ) (mask : ℕ → ℕ) (before after : List ℕ) : Type 0 where
  pub size : length after ≡ length before
  pub sets : (p s : ℕ) → p < done → s < 16 → cell after p s ≡ learnt_set n mask before p s
  pub rest : (p s : ℕ) → done ≤ p → s < 16 → cell after p s ≡ cell before p s

-- The set of s at p when a broadcast of s begins.
unfoldable pub first_set : ℕ → ℕ → ℕ
first_set p s = if p == s then 2 ^ s else 0

-- All stations below n are in the set.
unfoldable pub is_full : ℕ → ℕ → Bool
is_full n x = bit_and x (2 ^ n - 1) == 2 ^ n - 1

-- s is looked at: where its broadcast ends, the sets of s begin anew, and the end is noted.
pub record OneClosed (end : Bool) (s round : ℕ) (before after ends ends' last last' : List ℕ) : Type 0 where
  pub size : length after ≡ length before
  pub sets : (p q : ℕ) → p < 16 → q < 16 → cell after p q ≡ (if end && q == s then first_set p s else cell before p q)
  pub count : ends' ≡ (if end then set ends s (slice_index ends s + 1) else ends)
  pub round_of : last' ≡ (if end then set last s round else last)

-- The stations below done are looked at, and the others stay.
pub record Closed (done n round : ℕ) (before after ends ends' last last' : List ℕ) : Type 0 where
  pub size : length after ≡ length before
  pub size_ends : length ends' ≡ length ends
  pub size_last : length last' ≡ length last
  pub sets :
      (p s : ℕ) → p < 16 → s < 16 → s < done
      → cell after p s ≡ (if is_full n (cell before s s) then first_set p s else cell before p s)
  pub rest : (p s : ℕ) → p < 16 → s < 16 → done ≤ s → cell after p s ≡ cell before p s
  pub count :
      (s : ℕ) → s < done
      → slice_index ends' s ≡ (if is_full n (cell before s s) then slice_index ends s + 1 else slice_index ends s)
  pub count_rest : (s : ℕ) → done ≤ s → slice_index ends' s ≡ slice_index ends s
  pub round_of :
      (s : ℕ) → s < done → slice_index last' s ≡ (if is_full n (cell before s s) then round else slice_index last s)
  pub round_rest : (s : ℕ) → done ≤ s → slice_index last' s ≡ slice_index last s

-- The sets of the stations below n are those of a broadcast that begins.
pub record AllBegun (n : ℕ) (sets : List ℕ) : Type 0 where
  pub size : length sets ≡ set_count
  pub each : (p s : ℕ) → p < 16 → s < 16 → s < n → cell sets p s ≡ first_set p s
