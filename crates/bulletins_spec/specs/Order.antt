-- Document 02, A12: several bulletins that are shown in one round come by issuer, then tag.
use Rattle.std.specs.Prelude.{ℕ, zero, suc, ◌+◌, ◌*◌, Bool, if◌then◌else◌, List, [], ◌∷◌, ◌++◌, nat_lt}
use Rattle.bulletins_spec.specs.declared.Notice.{Notice}

-- the places of issuer i
abbrev pub four_of : ℕ → List ℕ
four_of i = (4 * i) ∷ (4 * i + 1) ∷ (4 * i + 2) ∷ (4 * i + 3) ∷ []

module _ (tag : ℕ → ℕ) where
  -- of two places the one with the lower tag, and the other one
  unfoldable pub lower : ℕ → ℕ → ℕ
  lower s r = if nat_lt (tag r) (tag s) then r else s

  unfoldable pub higher : ℕ → ℕ → ℕ
  higher s r = if nat_lt (tag r) (tag s) then s else r

  -- a place among places that are ordered by their tags
  unfoldable pub inserted : ℕ → List ℕ → List ℕ
  inserted s [] = s ∷ []
  inserted s (r ∷ rest) = lower s r ∷ inserted (higher s r) rest

  -- places ordered by their tags
  unfoldable pub by_tag : List ℕ → List ℕ
  by_tag [] = []
  by_tag (s ∷ rest) = inserted s (by_tag rest)

  -- the places of the issuers below n, by issuer and then by tag
  unfoldable pub in_order : ℕ → List ℕ
  in_order zero = []
  in_order (suc i) = in_order i ++ by_tag (four_of i)

-- of a list of places those that pass the test, as they are shown
unfoldable pub picked : (ℕ → Bool) → (ℕ → Notice) → List ℕ → List Notice
picked test show [] = []
picked test show (s ∷ rest) = (if test s then show s ∷ [] else []) ++ picked test show rest
