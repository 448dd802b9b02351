-- A page that is not refused has whole questions about stations below n, with numbers from 1. Each
-- of its answers is that of its question alone, by relays and by no other answer; and rounds added
-- at the end of the log leave every answer but never, which may become one of them.
use mathlib.Core.Bool.{Bool, true, false, cond, not, ◌&&◌, ◌||◌, true≢false}
use mathlib.Core.List.{List, ◌++◌}
use mathlib.Core.Path.{◌≡◌, refl, sym, ap, ◌∙◌}
use Prim.Native.Nat.{ℕ, zero, suc, ◌+◌, ◌*◌, ◌%◌, ◌<◌, ◌≤◌}
use native.Mathlib.Decide.{dec_le}
use native.Mathlib.Nat.{div-add-mod', mul-le-mul_right, suc-mul}
use native.Mathlib.Omega.{arith}
use borrow.Author.Tests.{eq-eqb, ne_eqb, lt-leb, le-ltb, leb-false, eqb-true, eqb-false, ltb-false}
use lib.Dec.{eqb, leb, ltb}
use lib.ListN.{get_or, length, replicate, length-replicate, length-append, get_or-append}
use lib.Seq.{ext_get_or}
use Rattle.links.specs.Log.{bit}
use Rattle.links.specs.Question.{answer_in}
use Rattle.links.proofs.Prefix.{Same}
use Rattle.links.proofs.Question.{answer_relays, answer_only, answer_extends}
use Rattle.lists.specs.Below.{any_below, set_below}
use Rattle.lists.proofs.Laws.{any_below_at, any_below_none, length-set_below, set_below_inside, set_below_above}
use Rattle.planning_spec.specs.Arrival.{Arrival}
use Rattle.planning_spec.specs.Questions.{PageAnswer}
use Rattle.planning_spec.specs.LinkLog.{rounds_of, links_of, log_refusal}
use Rattle.planning_spec.specs.Questions.{Question, question_at, question_count, is_bad, page_refusal, questions_refusal, Asked}
use Rattle.planning_spec.specs.Questions.{arrival_of, answer_to, never, questions_call, RelayAnswer, LaterAnswer, one_page}
use Rattle.planning_spec.proofs.LinkLog.{accepted, whole_hears, hears_none, hears_zero}

-- One question.
module _ (n : ℕ) (q : Question) where
  pub bad_number : q.sender < n → q.receiver < n → is_bad n q ≡ eqb q.number 0
  unfolding is_bad
  bad_number l m = rw (lt-leb n q.sender l, lt-leb n q.receiver m)

  pub good : is_bad n q ≡ false → (q.sender < n) × (q.receiver < n) × (1 ≤ q.number)
  unfolding is_bad
  good = go (leb n q.sender) refl (leb n q.receiver) refl
    where
      go : (a : Bool) → leb n q.sender ≡ a → (b : Bool) → leb n q.receiver ≡ b → (a || (b || eqb q.number 0)) ≡ false
          → (q.sender < n) × (q.receiver < n) × (1 ≤ q.number)
      go true x b y h = absurd (true≢false h)
      go false x true y h = absurd (true≢false h)
      go false x false y h = (leb-false n q.sender x, leb-false n q.receiver y, omega (arith, eqb-false q.number 0 h))

-- The refusals of a page, one after the other.
module _ (n : ℕ) (page : List ℕ) where
  abbrev some_bad : Bool
  some_bad = any_below (question_count page) (λ i. is_bad n (question_at page i))

  pub page_done : length page % 3 ≡ 0 → question_count page ≤ 64 → some_bad ≡ false → page_refusal n page ≡ 0
  unfolding page_refusal
  page_done e l b = rw (eq-eqb (length page % 3) 0 e, le-ltb 64 (question_count page) l, b)

  pub asked : page_refusal n page ≡ 0 → Asked n (question_count page) page
  unfolding page_refusal
  asked = go (eqb (length page % 3) 0) refl (ltb 64 (question_count page)) refl some_bad refl
    where
      go : (a : Bool) → eqb (length page % 3) 0 ≡ a → (b : Bool) → ltb 64 (question_count page) ≡ b → (d : Bool) → some_bad ≡ d
          → ◌≡◌ {A = ℕ} (cond (not a) 18 (cond b 18 (cond d 18 0))) 0 → Asked n (question_count page) page
      go false p b q d r h = absurd (omega arith)
      go true p true q d r h = absurd (omega arith)
      go true p false q true r h = absurd (omega arith)
      go true p false q false r h =
          record {
            few = ltb-false 64 (question_count page) q;
            whole = omega (arith, div-add-mod' (length page) 3);
            senders = λ i l. (good n (question_at page i) (any_below_at (question_count page) (λ k. is_bad n (question_at page k)) r i l)).0;
            receivers = λ i l. (good n (question_at page i) (any_below_at (question_count page) (λ k. is_bad n (question_at page k)) r i l)).1;
            numbers = λ i l. (good n (question_at page i) (any_below_at (question_count page) (λ k. is_bad n (question_at page k)) r i l)).2;
          }

-- The refusals of a log and a page.
module _ (n : ℕ) (log page : List ℕ) where
  pub refused_page : log_refusal n (length log) ≡ 0 → questions_refusal n log page ≡ page_refusal n page
  unfolding questions_refusal
  refused_page e = rw (eq-eqb (log_refusal n (length log)) 0 e)

  pub taken : questions_refusal n log page ≡ 0 → (log_refusal n (length log) ≡ 0) × (page_refusal n page ≡ 0)
  unfolding questions_refusal
  taken = go (eqb (log_refusal n (length log)) 0) refl
    where
      go : (a : Bool) → eqb (log_refusal n (length log)) 0 ≡ a
          → ◌≡◌ {A = ℕ} (cond (not a) (log_refusal n (length log)) (page_refusal n page)) 0
          → (log_refusal n (length log) ≡ 0) × (page_refusal n page ≡ 0)
      go false p h = absurd (eqb-false (log_refusal n (length log)) 0 p h)
      go true p h = (eqb-true (log_refusal n (length log)) 0 p, h)

  -- A refused call.
  pub call_refused : (refusal : ℕ) → refusal ≡ questions_refusal n log page → (refusal ≡ 0 → ⊥)
      → ◌≡◌ {A = PageAnswer} (record { refusal = refusal; answers = replicate 64 never }) (questions_call n log page)
  unfolding questions_call
  call_refused refusal e d = rw (e, ne_eqb (questions_refusal n log page) 0 (λ h. d (e ∙ h)))

pub nevers_at : (k i : ℕ) → get_or (replicate k never) i never ≡ never
nevers_at zero i = refl
nevers_at (suc k) zero = refl
nevers_at (suc k) (suc i) = nevers_at k i

-- A call that is not refused.
module _ (n : ℕ) (log page : List ℕ) (e : questions_refusal n log page ≡ 0) where
  abbrev count : ℕ
  count = question_count page

  abbrev answer : ℕ → Arrival
  answer i = answer_to n log (question_at page i)

  few : count ≤ 64
  few = (asked n page (taken n log page e).1).few

  pub call_done : questions_call n log page ≡ record { refusal = 0; answers = set_below count answer (replicate 64 never) }
  unfolding questions_call
  call_done = rw (eq-eqb (questions_refusal n log page) 0 e)

  -- The answer to question i.
  pub call_answer : (i : ℕ) → i < count → get_or (questions_call n log page).answers i never ≡ answer_to n log (question_at page i)
  call_answer i l =
      ap (λ (a : PageAnswer). get_or a.answers i never) call_done
      ∙ set_below_inside count answer (replicate 64 never) i never l (omega (arith, few, length-replicate {A = Arrival} 64 never))

  -- Sixty-four answers that are right at each question, and never past the page, are all of it.
  pub call_is : (answers : List Arrival) → length answers ≡ 64 → ((i : ℕ) → i < count → get_or answers i never ≡ answer_to n log (question_at page i))
      → ((i : ℕ) → count ≤ i → i < 64 → get_or answers i never ≡ never)
      → ◌≡◌ {A = PageAnswer} (record { refusal = 0; answers = answers }) (questions_call n log page)
  call_is answers size each rest =
      ap (λ (l : List Arrival). record { refusal = 0; answers = l }) (ext_get_or never answers (set_below count answer (replicate 64 never)) same at)
      ∙ sym call_done
    where
      same : length answers ≡ length (set_below count answer (replicate 64 never))
      same = size ∙ sym (length-set_below count answer (replicate 64 never) ∙ length-replicate {A = Arrival} 64 never)

      at : (i : ℕ) → i < length answers → get_or answers i never ≡ get_or (set_below count answer (replicate 64 never)) i never
      at i l =
          elim (dec_le (suc i) count) [
            | yes h ↦ each i h ∙ sym (set_below_inside count answer (replicate 64 never) i never h (omega (arith, few, length-replicate {A = Arrival} 64 never)))
            | no g ↦
                rest i (omega arith) (omega (arith, size))
                ∙ sym (set_below_above count answer (replicate 64 never) i never (omega arith) ∙ nevers_at 64 i)
          ]

-- Each answer is the answer by relays alone.
pub call_relays : (n : ℕ) (log page : List ℕ) → questions_refusal n log page ≡ 0 → (i : ℕ) → i < question_count page
    → RelayAnswer n log (question_at page i) (get_or (questions_call n log page).answers i never)
unfolding answer_to
call_relays n log page e i l =
    let q = question_at page i in
    record {
      round = answer_in (links_of n log) q.receiver q.sender q.number (rounds_of n log);
      given = call_answer n log page e i l;
      by_relays =
          answer_relays (links_of n log) q.receiver q.sender q.number (rounds_of n log) ((asked n page (taken n log page e).1).numbers i l);
    }

-- There is no other.
pub relay_only : (n : ℕ) (log : List ℕ) (q : Question) (a b : Arrival) → 1 ≤ q.number → RelayAnswer n log q a → RelayAnswer n log q b → a ≡ b
relay_only n log q a b low x y =
    x.given
    ∙ ap arrival_of
    (answer_only (links_of n log) q.receiver q.sender q.number (rounds_of n log) x.round y.round low x.by_relays y.by_relays)
    ∙ sym y.given

-- The answer to a question is that of the question put alone.
one_at : (q : Question) → question_at (one_page q) 0 ≡ q
unfolding question_at
one_at q = refl

not_bad : (n : ℕ) (q : Question) → q.sender < n → q.receiver < n → 1 ≤ q.number → is_bad n q ≡ false
not_bad n q s r k = bad_number n q s r ∙ ne_eqb q.number 0 (λ h. omega arith)

pub alone_taken : (n : ℕ) (log page : List ℕ) → questions_refusal n log page ≡ 0 → (i : ℕ) → i < question_count page
    → questions_refusal n log (one_page (question_at page i)) ≡ 0
alone_taken n log page e i l =
    let t = taken n log page e in
    let a = asked n page t.1 in
    let q = question_at page i in
    refused_page n log (one_page q) t.0
    ∙ page_done n (one_page q) refl (omega arith)
    (any_below_none 1 (λ k. is_bad n (question_at (one_page q) k))
    (λ k h.
    let z : k ≡ 0 = omega arith in
    ap (λ (x : ℕ). is_bad n (question_at (one_page q) x)) z
    ∙ ap (is_bad n) (one_at q)
    ∙ not_bad n q (a.senders i l) (a.receivers i l) (a.numbers i l)))

pub put_alone : (n : ℕ) (log page : List ℕ) → questions_refusal n log page ≡ 0 → (i : ℕ) → i < question_count page
    → get_or (questions_call n log page).answers i never ≡ get_or (questions_call n log (one_page (question_at page i))).answers 0 never
put_alone n log page e i l =
    let q = question_at page i in
    call_answer n log page e i l
    ∙ sym (call_answer n log (one_page q) (alone_taken n log page e i l) 0 (omega arith) ∙ ap (answer_to n log) (one_at q))

-- Rounds added at the end of a log.
module _ (n r m : ℕ) (log more : List ℕ) (low : 1 ≤ n) (whole : length log ≡ r * n) (longer : length (log ++ more) ≡ m * n) where
  added_same : Same (links_of n log) (links_of n (log ++ more)) r
  added_same = record { sizes = refl; hearings = hear }
    where
      hear : (u p j : ℕ) → u ≤ r → (links_of n log).hears u p j ≡ (links_of n (log ++ more)).hears u p j
      hear zero p j l = hears_zero n log p j ∙ sym (hears_zero n (log ++ more) p j)
      hear (suc u) p j l =
          elim (dec_le (suc p) n) [
            | yes h ↦
                (let k : suc u * n ≡ u * n + n = suc-mul u n in
                whole_hears n r log u p j whole h
                ∙ ap (λ (x : ℕ). ltb j n && (not (eqb p j) && bit x j))
                (sym (get_or-append log more 0 (u * n + p) (omega (arith, mul-le-mul_right n l))))
                ∙ sym (whole_hears n m (log ++ more) u p j longer h))
            | no g ↦ hears_none n log (suc u) p j (omega arith) ∙ sym (hears_none n (log ++ more) (suc u) p j (omega arith))
          ]

  added_rounds : r ≤ m
  added_rounds =
      elim (dec_le r m) [
        | yes l ↦ l
        | no g ↦
            (let h : suc m ≤ r = omega arith in
            let k : suc m * n ≡ m * n + n = suc-mul m n in
            absurd (omega (arith, mul-le-mul_right n h, length-append log more)))
      ]

pub call_extends : (n : ℕ) (log more page : List ℕ) → questions_refusal n log page ≡ 0 → questions_refusal n (log ++ more) page ≡ 0
    → (i : ℕ) → i < question_count page
    → LaterAnswer (rounds_of n log) (rounds_of n (log ++ more)) (get_or (questions_call n log page).answers i never)
    (get_or (questions_call n (log ++ more) page).answers i never)
unfolding answer_to
call_extends n log more page e f i l =
    let q = question_at page i in
    let a = accepted n (length log) (taken n log page e).0 in
    let b = accepted n (length (log ++ more)) (taken n (log ++ more) page f).0 in
    record {
      before = answer_in (links_of n log) q.receiver q.sender q.number (rounds_of n log);
      after = answer_in (links_of n (log ++ more)) q.receiver q.sender q.number (rounds_of n (log ++ more));
      given = call_answer n log page e i l;
      later = call_answer n (log ++ more) page f i l;
      extends =
          answer_extends (links_of n log) (links_of n (log ++ more)) (rounds_of n log) (rounds_of n (log ++ more))
          (added_same n (rounds_of n log) (rounds_of n (log ++ more)) log more a.some a.whole b.whole)
          (added_rounds n (rounds_of n log) (rounds_of n (log ++ more)) log more a.some a.whole b.whole)
          q.receiver q.sender q.number;
    }
