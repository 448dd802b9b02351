-- Document 01, "Bodies, labels and records": of two records of one station, when the seen one
-- counts as newer than the held one.
use Rattle.std.specs.Prelude.{ℕ, Bool, not, if◌then◌else◌, ◌&&◌, ◌||◌, nat_lt, ◌==◌}
use Rattle.labels.specs.declared.Age.{Age}
use Rattle.labels.specs.declared.Age.TheVariants.{Newer, Same, Conflicting, Older}
use Rattle.labels.specs.Label.{successor}

-- the term "newer", by the own labels and the counts: nothing is held yet; or the seen label comes
-- next after the held one; or, at the same label, more is counted (source document 001, Algorithm
-- 1, the order of labels with counts)
unfoldable pub is_newer : Bool → ℕ → ℕ → ℕ → ℕ → Bool
is_newer held held_label held_count seen_label seen_count =
    not held
    || (seen_label == successor held_label || (seen_label == held_label && nat_lt held_count seen_count))

-- document 02, A4: the four outcomes. A record that is not newer, with the own label and the count
-- of the held one, is the same where all else is equal too, and conflicting where anything is not;
-- any other that is not newer is older
unfoldable pub age_of : Bool → ℕ → ℕ → ℕ → ℕ → Bool → Age
age_of held held_label held_count seen_label seen_count equal =
    if is_newer held held_label held_count seen_label seen_count then Newer
    else if seen_label == held_label && seen_count == held_count
    then (if equal then Same else Conflicting)
    else Older
