-- Lists that are read and changed place by place. Where N of sixteen places are in use, these say
-- what the places below N hold, and keep the others.
use Rattle.std.specs.Prelude.{ℕ, zero, suc, Bool, true, false, cond, ◌&&◌, ◌||◌, List, [], ◌∷◌, ◌++◌, set}

-- the test holds at every place below n
unfoldable pub all_below : ℕ → (ℕ → Bool) → Bool
all_below zero test = true
all_below (suc k) test = all_below k test && test k

-- the test holds at some place below n
unfoldable pub any_below : ℕ → (ℕ → Bool) → Bool
any_below zero test = false
any_below (suc k) test = any_below k test || test k

module _ {A : Type 0} where
  -- the list whose places below n hold f of the place, and whose other places are those of l
  unfoldable pub set_below : ℕ → (ℕ → A) → List A → List A
  set_below zero f l = l
  set_below (suc k) f l = set (set_below k f l) k (f k)

  -- f of each place below n at which the test holds, in the order of the places
  unfoldable pub filter_map : ℕ → (ℕ → Bool) → (ℕ → A) → List A
  filter_map zero test f = []
  filter_map (suc k) test f = filter_map k test f ++ cond (test k) (f k ∷ []) []

  -- f of each place below n, in order
  unfoldable pub tabulate : ℕ → (ℕ → A) → List A
  tabulate zero f = []
  tabulate (suc k) f = tabulate k f ++ (f k ∷ [])
