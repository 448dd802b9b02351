-- Sets of places, as the code makes them.
use Rattle.std.specs.Prelude.{ℕ, zero, suc, ◌^◌, Bool, if◌then◌else◌, not, ◌&&◌}
use Rattle.std.specs.Int.Bits.{bit_or}
use Rattle.links.specs.Log.{bit}
use Rattle.bulletins_spec.specs.declared.Bulletins.{Bulletins}
use Rattle.bulletins_spec.specs.State.{stands}

-- the set of the places below so many at which a bulletin stands
unfoldable pub standing_below : Bulletins → ℕ → ℕ
standing_below B zero = 0
standing_below B (suc s) = if stands B s then bit_or (standing_below B s) (2 ^ s) else standing_below B s

-- the place is in the second set and not in the first
unfoldable pub new_in : ℕ → ℕ → ℕ → Bool
new_in before after s = bit after s && not (bit before s)
