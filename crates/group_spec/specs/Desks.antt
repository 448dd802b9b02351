-- Document 02, A7: two desks on one station. Every list of calls from a fresh group starts the
-- edits of both desks in turn, and no desk meets the other's limit.
use Rattle.std.specs.Prelude.{ℕ, ◌+◌, ◌≤◌, ◌<◌, true, cond, List, [], ◌∷◌, ◌≡◌, eqb, length}
use Rattle.bodies.specs.declared.Body.{Body}
use Rattle.bodies.specs.Refusals.{done}
use Rattle.queues.specs.Waiting.{is_desk, other_desk, waiting_edits, desk_count}
use Rattle.station_spec.specs.declared.Setup.{Setup}
use Rattle.station_spec.specs.declared.Station.{Station}
use Rattle.group_spec.specs.declared.Post.{Post}
use Rattle.group_spec.specs.State.{station_at, size_of, edition_of, group_inside}
use Rattle.group_spec.specs.Calls.{group_fresh_refusal, group_post_refusal}
use Rattle.group_spec.specs.History.{History, Call, next, continued, history_of}
use Rattle.group_spec.specs.History.{takings_of, posts_at, posts_of, aired_list}
use Rattle.group_spec.specs.Demand.{Begins}

module _ {A : Type 0} where
  -- the third list is made of the two others, each in its order
  pub data Interleaved : List A → List A → List A → Type 0 where
    none : Interleaved [] [] []
    first : (x : A) (xs ys zs : List A) → Interleaved xs ys zs → Interleaved (x ∷ xs) ys (x ∷ zs)
    second : (y : A) (xs ys zs : List A) → Interleaved xs ys zs → Interleaved xs (y ∷ ys) (y ∷ zs)

-- how many edits of a desk wait at station p
abbrev pub waiting_at_desk : History → ℕ → ℕ → ℕ
waiting_at_desk H p desk = desk_count (station_at H.group p).waiting desk

-- the edits that a desk started at station p
abbrev pub starts_of : History → ℕ → ℕ → List Body
starts_of H p desk = posts_of p desk H.starts

-- the desk that goes first at station p after these starts: the one that did not start the last of
-- them there, or where none is there the one from before
unfoldable pub first_after : ℕ → ℕ → List Post → ℕ
first_after p before [] = before
first_after p before (x ∷ xs) = first_after p (cond (eqb x.station p) (other_desk x.desk) before) xs

pub record Desks (n : ℕ) (H : History) : Type 0 where
  -- order: what a station starts is an interleaving of what its desks start
  pub starts_interleaved : (p : ℕ) → p < n → Interleaved (starts_of H p 0) (starts_of H p 1) (posts_at p H.starts)
  -- and what any station airs of a sender is a beginning of it, so that the edits of each desk come
  -- in their order everywhere
  pub aired_begin_starts : (p s : ℕ) → p < n → s < n → Begins (takings_of s (aired_list n H p)) (posts_at s H.starts)
  -- alternation: where both desks wait, no call starts an edit of the desk that started the last
  -- one; a fresh station gives way to desk 0
  pub desks_alternate :
      (call : Call) (p : ℕ) → p < n → 0 < waiting_at_desk H p 0 → 0 < waiting_at_desk H p 1 →
      let last = other_desk (first_after p 0 H.starts) in
      starts_of (next H call) p last ≡ starts_of H p last
  -- fairness: where a desk has an edit waiting, further calls start at most one edit of the other
  -- before they start one of it
  pub desks_fair :
      (more : List Call) (p desk : ℕ) → p < n → is_desk desk ≡ true → 0 < waiting_at_desk H p desk →
      starts_of (continued H more) p desk ≡ starts_of H p desk →
      length (starts_of (continued H more) p (other_desk desk)) ≤ length (starts_of H p (other_desk desk)) + 1

-- every fresh group that is not refused, every list of calls
abbrev pub TwoDesks : Type 0
TwoDesks =
    (setup : Setup) → group_fresh_refusal setup ≡ done → (calls : List Call) → Desks setup.n (history_of setup calls)

-- isolation: two groups inside their limits that agree in N, in their edition, in the limit of the
-- post's station and in the waiting edits of its desk refuse it alike
abbrev pub Isolated : Type 0
Isolated =
    (g h : List Station) (x : Post) → group_inside g ≡ true → group_inside h ≡ true →
    size_of g ≡ size_of h → edition_of g ≡ edition_of h →
    let v = (station_at g x.station).waiting in
    let w = (station_at h x.station).waiting in
    v.limit ≡ w.limit → waiting_edits v x.desk ≡ waiting_edits w x.desk →
    group_post_refusal g x ≡ group_post_refusal h x
