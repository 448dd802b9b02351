-- Every answer of the comparison means what it says of the two logs. By induction on both, with the
-- position of their first edits: an edit that is the same on both sides is put in front of whatever
-- the rest means.
use Prim.Native.Nat.{ℕ, suc, ◌+◌}
use mathlib.Core.Path.{◌≡◌, refl, sym, ap, subst, ◌∙◌}
use mathlib.Core.Bool.{Bool, true, false, cond, ◌&&◌, false≢true}
use mathlib.Core.List.{List, [], ◌∷◌, ◌++◌}
use native.Mathlib.Omega.{arith}
use lib.Dec.{eqb}
use lib.ListN.{length}
use borrow.Author.Tests.{eqb-true, eq-eqb}
use Rattle.lists.proofs.Laws.{and_left, and_right}
use Rattle.air_logs_spec.specs.declared.Compared.{Compared}
use Rattle.air_logs_spec.specs.declared.Compared.TheVariants.{Equal, FirstBegins, SecondBegins, Different, Refused}
use Rattle.air_logs_spec.specs.Logs.{Edit}
use Rattle.air_logs_spec.specs.Compare.{same_whole, same_edit, compared_from, GoesOn, Means}
use Rattle.air_logs_spec.proofs.Fields.{same_whole_only, same_whole_self}

-- the test on two edits says that they are equal
pub same_edit_lem : (x : Edit) → same_edit x x ≡ true
unfolding same_edit
same_edit_lem x =
    rw (
      eq-eqb x.source x.source refl,
      eq-eqb x.kind x.kind refl,
      eq-eqb x.event x.event refl,
      same_whole_self x.argument,
    )

pub edit_same : (x y : Edit) → same_edit x y ≡ true → x ≡ y
unfolding same_edit
edit_same x y h =
    let sources = eqb x.source y.source in
    let kinds = eqb x.kind y.kind in
    let events = eqb x.event y.event in
    let arguments = same_whole x.argument y.argument in
    let h₁ = and_right sources (kinds && (events && arguments)) h in
    let h₂ = and_right kinds (events && arguments) h₁ in
    let a = eqb-true x.source y.source (and_left sources (kinds && (events && arguments)) h) in
    let b = eqb-true x.kind y.kind (and_left kinds (events && arguments) h₁) in
    let c = eqb-true x.event y.event (and_left events arguments h₂) in
    let d = same_whole_only x.argument y.argument (and_right events arguments h₂) in
    (λ i. record { source = a i; kind = b i; event = c i; argument = d i })

-- the same with the position of the first edits
record DifferFrom (k position : ℕ) (xs ys : List Edit) : Type 0 where
  same : List Edit
  one : Edit
  other : Edit
  more : List Edit
  others : List Edit
  first : xs ≡ same ++ (one ∷ more)
  second : ys ≡ same ++ (other ∷ others)
  different : one ≡ other → ⊥
  counted : position ≡ k + length same

abbrev MeansFrom : ℕ → List Edit → List Edit → Compared → Type 0
MeansFrom k xs ys Equal = xs ≡ ys
MeansFrom k xs ys FirstBegins = GoesOn xs ys
MeansFrom k xs ys SecondBegins = GoesOn ys xs
MeansFrom k xs ys (Different position) = DifferFrom k position xs ys
MeansFrom k xs ys (Refused refusal) = ⊥

one_more : (k : ℕ) (x : Edit) (xs ys : List Edit) (r : Compared) → MeansFrom (suc k) xs ys r → MeansFrom k (x ∷ xs) (x ∷ ys) r
one_more k x xs ys Equal m = ap (λ (l : List Edit). x ∷ l) m
one_more k x xs ys FirstBegins m = record { next = m.next; more = m.more; whole = ap (λ (l : List Edit). x ∷ l) m.whole }
one_more k x xs ys SecondBegins m = record { next = m.next; more = m.more; whole = ap (λ (l : List Edit). x ∷ l) m.whole }
one_more k x xs ys (Different position) m =
    record {
      same = x ∷ m.same;
      one = m.one;
      other = m.other;
      more = m.more;
      others = m.others;
      first = ap (λ (l : List Edit). x ∷ l) m.first;
      second = ap (λ (l : List Edit). x ∷ l) m.second;
      different = m.different;
      counted = omega (arith, m.counted);
    }
one_more k x xs ys (Refused refusal) m = absurd m

means_from : (k : ℕ) (xs ys : List Edit) → MeansFrom k xs ys (compared_from k xs ys)
unfolding compared_from
means_from k [] [] = refl
means_from k [] (y ∷ ys) = record { next = y; more = ys; whole = refl }
means_from k (x ∷ xs) [] = record { next = x; more = xs; whole = refl }
means_from k (x ∷ xs) (y ∷ ys) = go (same_edit x y) refl (means_from (suc k) xs ys)
  where
    go :
        (t : Bool) → same_edit x y ≡ t → MeansFrom (suc k) xs ys (compared_from (suc k) xs ys) →
        MeansFrom k (x ∷ xs) (y ∷ ys) (cond t (compared_from (suc k) xs ys) (Different k))
    go true e m =
        subst (λ (z : Edit). MeansFrom k (x ∷ xs) (z ∷ ys) (compared_from (suc k) xs ys)) (edit_same x y e)
        (one_more k x xs ys (compared_from (suc k) xs ys) m)
    go false e m =
        record {
          same = [];
          one = x;
          other = y;
          more = xs;
          others = ys;
          first = refl;
          second = refl;
          different = λ q. false≢true (sym e ∙ subst (λ (z : Edit). same_edit x z ≡ true) q (same_edit_lem x));
          counted = omega arith;
        }

from_one : (xs ys : List Edit) (r : Compared) → MeansFrom 1 xs ys r → Means xs ys r
from_one xs ys Equal m = m
from_one xs ys FirstBegins m = m
from_one xs ys SecondBegins m = m
from_one xs ys (Different position) m =
    record {
      same = m.same;
      one = m.one;
      other = m.other;
      more = m.more;
      others = m.others;
      first = m.first;
      second = m.second;
      different = m.different;
      counted = omega (arith, m.counted);
    }
from_one xs ys (Refused refusal) m = m

pub compared_means : (xs ys : List Edit) → Means xs ys (compared_from 1 xs ys)
compared_means xs ys = from_one xs ys (compared_from 1 xs ys) (means_from 1 xs ys)
