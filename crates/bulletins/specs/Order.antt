-- Places beside each other, ordered by their tags.
use Rattle.std.specs.Prelude.{ℕ, ◌+◌, List, set, slice_index}
use Rattle.bulletins_spec.specs.Order.{lower, higher}

-- the list with the entries k and k + 1 ordered
abbrev pub two_ordered : (ℕ → ℕ) → List ℕ → ℕ → List ℕ
two_ordered tag l k =
    set (set l k (lower tag (slice_index l k) (slice_index l (k + 1)))) (k + 1)
    (higher tag (slice_index l k) (slice_index l (k + 1)))
