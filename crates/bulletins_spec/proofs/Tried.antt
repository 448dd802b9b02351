-- A list of three stations, computed: two bulletins are shown by tag and not as issued, one hop a
-- round and once; the third has a tag of before and is refused.
use Prim.Native.Nat.{ℕ}
use mathlib.Core.List.{List, [], ◌∷◌}
use mathlib.Core.Path.{◌≡◌, refl}
use Rattle.links.specs.Log.{bit, hears_in}
use Rattle.lists.specs.Below.{all_below, any_below, set_below}
use Rattle.planning.specs.Sets.{united}
use Rattle.bulletins_spec.specs.declared.Bulletins.{Bulletins}
use Rattle.bulletins_spec.specs.declared.Notice.{Notice}
use Rattle.bulletins_spec.specs.State.{bulletins_inside, fresh_bulletins}
use Rattle.bulletins_spec.specs.Order.{lower, higher, inserted, by_tag, in_order, picked}
use Rattle.bulletins_spec.specs.Calls.{free_from, has_tag, issue_refusal, issued, issue_call, set_after, bulletins_after, gains, shown_by}

abbrev notice : ℕ → ℕ → Notice
notice tag event = record { issuer = 0; tag = tag; event = event }

-- station 0 issues twice, and once more with a tag that it has issued
abbrev first : Bulletins
first = (issue_call (fresh_bulletins 3) 0 7 5).bulletins

abbrev second : Bulletins
second = (issue_call first 0 3 9).bulletins

-- 1 hears 0, and 2 hears 1; twice
abbrev chain : List ℕ
chain = 0 ∷ 1 ∷ 2 ∷ []

abbrev third : Bulletins
third = bulletins_after second chain

pub record Tried : Type 0 where
  pub shown_when_issued : (issue_call first 0 3 9).shown ≡ notice 3 9
  pub refused : (issue_call second 0 3 8).refusal ≡ 19
  pub first_round : shown_by second chain 1 ≡ notice 3 9 ∷ notice 7 5 ∷ []
  pub one_hop : shown_by second chain 2 ≡ []
  pub second_round : shown_by third chain 2 ≡ notice 3 9 ∷ notice 7 5 ∷ []
  pub once : shown_by third chain 1 ≡ []
  pub not_at_its_issuer : shown_by third (7 ∷ 7 ∷ 7 ∷ []) 0 ≡ []

pub tried : Tried
unfolding bit hears_in all_below any_below set_below united bulletins_inside fresh_bulletins lower higher inserted by_tag in_order picked free_from has_tag issue_refusal issued issue_call set_after bulletins_after gains shown_by
tried =
    record {
      shown_when_issued = refl;
      refused = refl;
      first_round = refl;
      one_hop = refl;
      second_round = refl;
      once = refl;
      not_at_its_issuer = refl;
    }
