-- Document 02, A8: how two air logs compare, the call with its refusals, and the claim about two
-- logs of one listing.
use Rattle.std.specs.Prelude.{ℕ, suc, ◌+◌, ◌≤◌, Bool, if◌then◌else◌, not, ◌&&◌, ◌||◌, List, [], ◌∷◌}
use Rattle.std.specs.Prelude.{◌++◌, ◌≡◌, nat_lt, ◌==◌, ℤ}
use Rattle.std.specs.Prelude.{length, int_le}
use Rattle.bodies.specs.Refusals.{done, bad_number, bad_listing, refuse_number}
use Rattle.listing_spec.specs.Listing.{listing_of}
use Rattle.air_logs_spec.specs.declared.Compared.{Compared}
use Rattle.air_logs_spec.specs.declared.Compared.TheVariants.{Equal, FirstBegins, SecondBegins}
use Rattle.air_logs_spec.specs.declared.Compared.TheVariants.{Different, Refused}
use Rattle.air_logs_spec.specs.Form.{is_listing}
use Rattle.air_logs_spec.specs.Logs.{Edit, log_of}

abbrev pub same_whole : ℤ → ℤ → Bool
same_whole a b = int_le a b && int_le b a

-- two edits that are not different: source, kind, event and argument
unfoldable pub same_edit : Edit → Edit → Bool
same_edit x y =
    x.source == y.source
    && (x.kind == y.kind && (x.event == y.event && same_whole x.argument y.argument))

-- two logs, their first edits having this position
unfoldable pub compared_from : ℕ → List Edit → List Edit → Compared
compared_from k [] [] = Equal
compared_from k [] (y ∷ ys) = FirstBegins
compared_from k (x ∷ xs) [] = SecondBegins
compared_from k (x ∷ xs) (y ∷ ys) = if same_edit x y then compared_from (suc k) xs ys else Different k

-- a station number that a listing can have
abbrev pub last_station : ℕ
last_station = 15

-- 1, then 16 for the first listing and for the second
unfoldable pub compare_refusal : List ℕ → ℕ → List ℕ → ℕ → ℕ
compare_refusal first p second q =
    refuse_number (nat_lt last_station p || nat_lt last_station q) bad_number
    (refuse_number (not (is_listing first)) bad_listing (refuse_number (not (is_listing second)) bad_listing done))

-- the comparison of the log of station p in the first listing with that of station q in the second;
-- positions count from 1
unfoldable pub compare_call : List ℕ → ℕ → List ℕ → ℕ → Compared
compare_call first p second q =
    if compare_refusal first p second q == done
    then compared_from 1 (log_of p first) (log_of q second)
    else Refused (compare_refusal first p second q)

-- what each answer is in numbers: its refusal, 0 where there is none; which of the four answers it
-- is, in document 02's order from 0; and the position, 0 where there is none
abbrev pub refusal_of : Compared → ℕ
refusal_of Equal = done
refusal_of FirstBegins = done
refusal_of SecondBegins = done
refusal_of (Different position) = done
refusal_of (Refused refusal) = refusal

abbrev pub outcome_of : Compared → ℕ
outcome_of Equal = 0
outcome_of FirstBegins = 1
outcome_of SecondBegins = 2
outcome_of (Different position) = 3
outcome_of (Refused refusal) = 0

abbrev pub position_of : Compared → ℕ
position_of Equal = 0
position_of FirstBegins = 0
position_of SecondBegins = 0
position_of (Different position) = position
position_of (Refused refusal) = 0

-- a log goes on after another that is its beginning
pub record GoesOn (xs ys : List Edit) : Type 0 where
  pub next : Edit
  pub more : List Edit
  pub whole : xs ++ (next ∷ more) ≡ ys

-- two logs have the same edits before a position, counted from 1, and different ones there
pub record DifferAt (position : ℕ) (xs ys : List Edit) : Type 0 where
  pub same : List Edit
  pub one : Edit
  pub other : Edit
  pub more : List Edit
  pub others : List Edit
  pub first : xs ≡ same ++ (one ∷ more)
  pub second : ys ≡ same ++ (other ∷ others)
  pub different : one ≡ other → ⊥
  pub counted : position ≡ length same + 1

-- what each answer says of two logs
abbrev pub Means : List Edit → List Edit → Compared → Type 0
Means xs ys Equal = xs ≡ ys
Means xs ys FirstBegins = GoesOn xs ys
Means xs ys SecondBegins = GoesOn ys xs
Means xs ys (Different position) = DifferAt position xs ys
Means xs ys (Refused refusal) = ⊥

-- one of the first three answers
abbrev pub Agrees : Compared → Type 0
Agrees Equal = Unit {0}
Agrees FirstBegins = Unit {0}
Agrees SecondBegins = Unit {0}
Agrees (Different position) = ⊥
Agrees (Refused refusal) = ⊥

-- The logs of any two stations in the listing of any script fit: they never differ, and the listing
-- is never refused.
abbrev pub LogsFit : Type 0
LogsFit =
    (script : List ℕ) (p q : ℕ) → p ≤ last_station → q ≤ last_station →
    Agrees (compare_call (listing_of script) p (listing_of script) q)
