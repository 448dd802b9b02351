-- Document 02, A14: replies stay behind what they reply to. Each accepted post is an edit of its
-- own, told by its station, its desk and its number among that desk's accepted posts, and never by
-- its body.
use Rattle.std.specs.Prelude.{ℕ, ◌<◌, cond, List, [], ◌∷◌, ◌++◌, ◌≡◌, eqb, get_or, length, take}
use Rattle.bodies.specs.declared.Body.TheVariants.{Empty}
use Rattle.bodies.specs.Refusals.{done}
use Rattle.station_spec.specs.declared.Setup.{Setup}
use Rattle.station_spec.specs.declared.Taking.{Taking}
use Rattle.group_spec.specs.declared.Post.{Post}
use Rattle.group_spec.specs.Calls.{no_taking, group_fresh_refusal, group_post_refusal}
use Rattle.group_spec.specs.History.{History, Call, post, next, continued, history_of}
use Rattle.group_spec.specs.History.{takings_of, posts_of, aired_list}

-- what tells an edit from all others; numbers and entries are counted from 0
pub record Edit : Type 0 where
  pub source : ℕ
  pub desk : ℕ
  pub number : ℕ

abbrev pub no_post : Post
no_post = record { station = 0; desk = 0; body = Empty }

-- the edit that a post is which these come before
abbrev pub edit_after : List Post → Post → Edit
edit_after earlier x =
    record { source = x.station; desk = x.desk; number = length (posts_of x.station x.desk earlier) }

-- the edit that entry k of a list of posts is
unfoldable pub edit_at : List Post → ℕ → Edit
edit_at posts k = edit_after (take k posts) (get_or posts k no_post)

-- the posts that are made at station s
unfoldable pub posts_from : ℕ → List Post → List Post
posts_from s [] = []
posts_from s (x ∷ xs) = cond (eqb x.station s) (x ∷ []) [] ++ posts_from s xs

-- the edit that entry i of an aired list is: entry k of its source is the k-th edit that its source
-- started
unfoldable pub entry_edit : List Post → List Taking → ℕ → Edit
entry_edit starts aired i =
    let s = (get_or aired i no_taking).source in
    edit_at (posts_from s starts) (length (takings_of s (take i aired)))

abbrev pub aired_edit : ℕ → History → ℕ → ℕ → Edit
aired_edit n H q i = entry_edit H.starts (aired_list n H q) i

-- entry i of the aired list of q is the edit e
pub record AiredAt (n : ℕ) (H : History) (q i : ℕ) (e : Edit) : Type 0 where
  pub there : i < length (aired_list n H q)
  pub same : aired_edit n H q i ≡ e

-- the edit e is an accepted post, made at the source and with the body of this entry
pub record Posted (H : History) (t : Taking) (e : Edit) : Type 0 where
  pub place : ℕ
  pub there : place < length H.accepted
  pub same : edit_at H.accepted place ≡ e
  pub source : (get_or H.accepted place no_post).station ≡ t.source
  pub body : (get_or H.accepted place no_post).body ≡ t.body

-- every entry of an aired list is exactly one accepted post, the same everywhere and for good,
-- whatever the bodies are
pub record Identified (n : ℕ) (H : History) : Type 0 where
  pub posts_differ :
      (k m : ℕ) → k < length H.accepted → m < length H.accepted →
      edit_at H.accepted k ≡ edit_at H.accepted m → k ≡ m
  pub post_next :
      (x : Post) → group_post_refusal H.group x ≡ done →
      edit_at (next H (post x)).accepted (length H.accepted) ≡ edit_after H.accepted x
  pub posts_stay :
      (more : List Call) (k : ℕ) → k < length H.accepted →
      edit_at (continued H more).accepted k ≡ edit_at H.accepted k
  pub entries_posted :
      (q i : ℕ) → q < n → i < length (aired_list n H q) →
      Posted H (get_or (aired_list n H q) i no_taking) (aired_edit n H q i)
  pub entries_differ :
      (q i k : ℕ) → q < n → i < length (aired_list n H q) → k < length (aired_list n H q) →
      aired_edit n H q i ≡ aired_edit n H q k → i ≡ k
  pub lists_agree :
      (p q i : ℕ) → p < n → q < n → i < length (aired_list n H p) → i < length (aired_list n H q) →
      aired_edit n H p i ≡ aired_edit n H q i
  pub entries_stay :
      (more : List Call) (q i : ℕ) → q < n → i < length (aired_list n H q) →
      AiredAt n (continued H more) q i (aired_edit n H q i)

-- every fresh group that is not refused, every list of calls
abbrev pub EditsIdentified : Type 0
EditsIdentified =
    (setup : Setup) → group_fresh_refusal setup ≡ done → (calls : List Call) →
    Identified setup.n (history_of setup calls)

-- y comes later than x in every aired list that has both, and no list has y without x
pub record Behind (n : ℕ) (H : History) (x y : Edit) : Type 0 where
  pub later : (q i k : ℕ) → q < n → AiredAt n H q i x → AiredAt n H q k y → i < k
  pub never_without : (q k : ℕ) → q < n → AiredAt n H q k y → (i : ℕ) × AiredAt n H q i x

-- a post that is accepted once its station has aired x stays behind x, whatever is called before
-- and after it
abbrev pub RepliesBehind : Type 0
RepliesBehind =
    (setup : Setup) → group_fresh_refusal setup ≡ done → (before : List Call) (reply : Post) (after : List Call) →
    let H₀ = history_of setup before in
    let H = history_of setup (before ++ (post reply ∷ after)) in
    group_post_refusal H₀.group reply ≡ done →
    (x : Edit) (i : ℕ) → AiredAt setup.n H₀ reply.station i x →
    Behind setup.n H x (edit_after H₀.accepted reply)

-- beyond the request: the same where any station has aired x
abbrev pub PostsBehind : Type 0
PostsBehind =
    (setup : Setup) → group_fresh_refusal setup ≡ done → (before : List Call) (later : Post) (after : List Call) →
    let H₀ = history_of setup before in
    let H = history_of setup (before ++ (post later ∷ after)) in
    group_post_refusal H₀.group later ≡ done →
    (x : Edit) (p i : ℕ) → p < setup.n → AiredAt setup.n H₀ p i x →
    Behind setup.n H x (edit_after H₀.accepted later)
