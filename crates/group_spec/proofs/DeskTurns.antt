-- Which desk goes first, read off the history: at each station it is the desk that did not start
-- the last edit there, for a post leaves it and the start of an edit alone moves it. So where both
-- desks wait the next edit is of that desk.
use Prim.Native.Nat.{ℕ, zero, suc, ◌≤◌, ◌<◌}
use mathlib.Core.Bool.{Bool, true, false, cond, ◌&&◌}
use mathlib.Core.List.{List, [], ◌∷◌, ◌++◌, append-nil}
use mathlib.Core.Path.{◌≡◌, refl, sym, ap, subst, ◌∙◌}
use native.Mathlib.Decide.{ℕ_discrete}
use native.Mathlib.Omega.{arith}
use lib.Dec.{eqb}
use borrow.Author.Tests.{eq-eqb, ne_eqb}
use Rattle.bodies.specs.declared.Body.{Body}
use Rattle.bodies.specs.Body.{is_edit}
use Rattle.lists.specs.Below.{filter_map}
use Rattle.queues.specs.declared.Waiting.{Waiting}
use Rattle.queues.specs.Waiting.{other_desk, desk_count, first_desk, next_desk}
use Rattle.queues.proofs.WaitingLaws.{each_desk, first_desk_lem, first_next, none_first}
use Rattle.station_spec.specs.declared.Setup.{Setup}
use Rattle.station_spec.specs.declared.Station.{Station}
use Rattle.station_spec.proofs.Setters.{fresh_self}
use Rattle.group_spec.specs.declared.Post.{Post}
use Rattle.group_spec.specs.State.{station_at, size_of}
use Rattle.group_spec.specs.Calls.{round_call}
use Rattle.group_spec.specs.History.{History, Call, Call.post, Call.round, next, begun, continued, history_of, report_in, starts_in}
use Rattle.group_spec.specs.Desks.{waiting_at_desk, starts_of, first_after}
use Rattle.group_spec.proofs.Setups.{Accepts}
use Rattle.group_spec.proofs.Members.{Members, fresh_at}
use Rattle.group_spec.proofs.HistoryInside.{members-next, members-begun, history_members}
use Rattle.group_spec.proofs.TurnAccount.{start_of}
use Rattle.group_spec.proofs.Takings.{posts_of-append}
use Rattle.group_spec.proofs.PostsAccounted.{post_first, round_first, desk_starts}

-- first after two lists of starts, and after what is gathered with its place as station
first_append : (p f : ℕ) (xs ys : List Post) → first_after p f (xs ++ ys) ≡ first_after p (first_after p f xs) ys
unfolding first_after
first_append p f [] ys = refl
first_append p f (x ∷ xs) ys = first_append p (cond (eqb x.station p) (other_desk x.desk) f) xs ys

module _ (test : ℕ → Bool) (desk : ℕ → ℕ) (body : ℕ → Body) (p f : ℕ) where
  abbrev made : ℕ → List Post
  made m = filter_map m test (λ k. record { station = k; desk = desk k; body = body k })

  abbrev last : ℕ → List Post
  last m = cond (test m) (record { station = m; desk = desk m; body = body m } ∷ []) []

  last_other : (m : ℕ) → (m ≡ p → ⊥) → (e : ℕ) → first_after p e (last m) ≡ e
  unfolding first_after
  last_other m ne e = go (test m)
    where
      go : (t : Bool) → first_after p e (cond t (record { station = m; desk = desk m; body = body m } ∷ []) []) ≡ e
      go true = rw (ne_eqb m p ne)
      go false = refl

  last_own : (e : ℕ) → first_after p e (last p) ≡ cond (test p) (other_desk (desk p)) e
  unfolding first_after
  last_own e = go (test p)
    where
      go : (t : Bool) → first_after p e (cond t (record { station = p; desk = desk p; body = body p } ∷ []) []) ≡ cond t (other_desk (desk p)) e
      go true = rw (eq-eqb p p refl)
      go false = refl

  before_own : (m : ℕ) → m ≤ p → first_after p f (made m) ≡ f
  unfolding filter_map first_after
  before_own zero l = refl
  before_own (suc m) l =
      first_append p f (made m) (last m)
      ∙ last_other m (λ e. absurd (omega arith)) (first_after p f (made m))
      ∙ before_own m (omega arith)

  first_gathered : (m : ℕ) → p < m → first_after p f (made m) ≡ cond (test p) (other_desk (desk p)) f
  unfolding filter_map
  first_gathered zero l = absurd (omega arith)
  first_gathered (suc m) l =
      first_append p f (made m) (last m)
      ∙ elim (ℕ_discrete m p) [
        | yes e ↦
            subst (λ (k : ℕ). first_after p (first_after p f (made k)) (last k) ≡ cond (test p) (other_desk (desk p)) f) (sym e)
            (last_own (first_after p f (made p)) ∙ ap (λ (x : ℕ). cond (test p) (other_desk (desk p)) x) (before_own p (omega arith)))
        | no ne ↦ last_other m ne (first_after p f (made m)) ∙ first_gathered m (omega arith)
      ]

-- the desk that goes first is the one that the starts tell
abbrev Tied : History → ℕ → Type 0
Tied H p = first_desk (station_at H.group p).waiting ≡ first_after p 0 H.starts

round_turn :
    (n : ℕ) (g : List Station) → Members n g → (masks : List ℕ) (p f : ℕ) → p < n →
    first_after p f (starts_in g (round_call g masks))
    ≡ cond (is_edit (report_in (round_call g masks) p).turn.started_body) (other_desk (next_desk (station_at g p).waiting)) f
unfolding starts_in
round_turn n g c masks p f l =
    let body : ℕ → Body = λ k. (report_in (round_call g masks) k).turn.started_body in
    first_gathered (λ k. is_edit (body k)) (λ k. next_desk (station_at g k).waiting) body p f (size_of g) (omega (arith, c.size))

tied-next : (n : ℕ) (H : History) (call : Call) (p : ℕ) → p < n → Members n H.group → Tied H p → Tied (next H call) p
unfolding next
tied-next n H (post x) p l c t = post_first n H.group c x p ∙ t
tied-next n H (round masks) p l c t =
    round_first n H.group c masks p l
    ∙ ap (λ (f : ℕ). cond (is_edit (report_in (round_call H.group masks) p).turn.started_body) (other_desk (next_desk (station_at H.group p).waiting)) f) t
    ∙ sym (round_turn n H.group c masks p (first_after p 0 H.starts) l)
    ∙ sym (first_append p 0 H.starts (starts_in H.group (round_call H.group masks)))

tied-continued : (n : ℕ) (H : History) (calls : List Call) (p : ℕ) → p < n → Members n H.group → Tied H p → Tied (continued H calls) p
unfolding continued
tied-continued n H [] p l c t = t
tied-continued n H (call ∷ calls) p l c t = tied-continued n (next H call) calls p l (members-next n H call c) (tied-next n H call p l c t)

tied : (setup : Setup) → Accepts setup → (calls : List Call) (p : ℕ) → p < setup.n → Tied (history_of setup calls) p
tied setup ok calls p l = tied-continued setup.n (begun setup) calls p l (members-begun setup ok) first
  where
    first : Tied (begun setup) p
    first =
        unfold begun first_after in
        (ap (λ (s : Station). first_desk s.waiting) (fresh_at setup ok.high p l)
        ∙ ap first_desk (fresh_self setup p).waiting
        ∙ none_first setup.limit)

-- what a round adds to the starts of a desk
pub starts_round :
    (n : ℕ) (H : History) → Members n H.group → (masks : List ℕ) (p : ℕ) → p < n → (d : ℕ) →
    starts_of (next H (round masks)) p d
    ≡ starts_of H p d ++ start_of (next_desk (station_at H.group p).waiting) (report_in (round_call H.group masks) p).turn.started_body d
unfolding next
starts_round n H c masks p l d =
    posts_of-append p d H.starts (starts_in H.group (round_call H.group masks))
    ∙ ap (λ (z : List Body). starts_of H p d ++ z) (desk_starts n H.group c masks p l d)

pub starts_post : (H : History) (x : Post) (p d : ℕ) → starts_of (next H (post x)) p d ≡ starts_of H p d
unfolding next
starts_post H x p d = refl

-- where both wait, the desk that does not go first starts nothing
alternates_at :
    (n : ℕ) (H : History) → Members n H.group → (call : Call) (p : ℕ) → p < n → 0 < waiting_at_desk H p 0 → 0 < waiting_at_desk H p 1 →
    let last = other_desk (first_desk (station_at H.group p).waiting) in starts_of (next H call) p last ≡ starts_of H p last
alternates_at n H c (post x) p l z o = starts_post H x p (other_desk (first_desk (station_at H.group p).waiting))
alternates_at n H c (round masks) p l z o =
    starts_round n H c masks p l (other_desk (first_desk w))
    ∙ ap (λ (x : List Body). starts_of H p (other_desk (first_desk w)) ++ x) (ap (λ (d : ℕ). start_of d body (other_desk (first_desk w))) next_first ∙ none)
    ∙ append-nil (starts_of H p (other_desk (first_desk w)))
  where
    w : Waiting
    w = (station_at H.group p).waiting

    body : Body
    body = (report_in (round_call H.group masks) p).turn.started_body

    next_first : next_desk w ≡ first_desk w
    next_first = first_next w (each_desk (λ d. 0 < desk_count w d) z o (first_desk w) (first_desk_lem w))

    nothing : (t : Bool) → cond (t && false) (body ∷ []) [] ≡ []
    nothing true = refl
    nothing false = refl

    none : start_of (first_desk w) body (other_desk (first_desk w)) ≡ []
    none = each_desk (λ d. start_of d body (other_desk d) ≡ []) (nothing (is_edit body)) (nothing (is_edit body)) (first_desk w) (first_desk_lem w)

pub desks_alternate :
    (setup : Setup) → Accepts setup → (calls : List Call) (call : Call) (p : ℕ) → p < setup.n →
    let H = history_of setup calls in
    0 < waiting_at_desk H p 0 → 0 < waiting_at_desk H p 1 →
    let last = other_desk (first_after p 0 H.starts) in starts_of (next H call) p last ≡ starts_of H p last
desks_alternate setup ok calls call p l z o =
    let H : History = history_of setup calls in
    subst (λ (f : ℕ). starts_of (next H call) p (other_desk f) ≡ starts_of H p (other_desk f)) (tied setup ok calls p l)
    (alternates_at setup.n H (history_members setup ok calls) call p l z o)
