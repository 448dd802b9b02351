-- What writing one round does to a buffer.
use Rattle.std.specs.Prelude.{List, ℕ, zero, suc, ◌+◌, set}

-- the list whose place at + p holds f p, for p below n, and whose other places are those of l
unfoldable pub fill_from : ℕ → ℕ → (ℕ → ℕ) → List ℕ → List ℕ
fill_from at zero f l = l
fill_from at (suc p) f l = set (fill_from at p f l) (at + p) (f p)
