-- A page of replies, round after round. A reply that is settled is the answer one round
-- later (`settled_reply`), and what the sets and ends say that a station has received is the
-- number that it has got to (`received_got`). So the replies after each round are those of the
-- answers within it.
use mathlib.Core.Bool.{Bool, true, false, cond, true≢false, ◌||◌}
use Rattle.std.specs.Prelude.{Some, None}
use Rattle.std.specs.Option.{is_some}
use mathlib.Core.List.{List}
use mathlib.Core.Option.{Option, none, some}
use mathlib.Core.Path.{◌≡◌, refl, sym, ap, ap₂, ◌∙◌}
use Prim.Native.Nat.{ℕ, suc, ◌+◌, ◌*◌, ◌<◌}
use native.Mathlib.Decide.{ℕ_discrete}
use native.Mathlib.Numerals.{add-one}
use native.Mathlib.Omega.{arith}
use lib.Dec.{leb}
use lib.ListN.{get_or, length, set, length-set}
use lib.Seq.{get_or-set_same, get_or-set_other}
use Rattle.lists.specs.Below.{any_below}
use Rattle.links.specs.Relay.{Links}
use Rattle.links.specs.Inner.Number.{got}
use Rattle.links.specs.Question.{otherwise, answer_in}
use Rattle.links.proofs.Question.{got-knows}
use Rattle.planning.specs.Stands.{Stands}
use Rattle.planning_spec.specs.Questions.{question_at, is_bad, arrival_of, never, Asked}
use Rattle.planning_spec.specs.Arrival.{Arrival}
use Rattle.planning.specs.Replies.{settled, received_in, Settled, Replied}

-- One reply.
settled_reply : (a : Option ℕ) (k received u : ℕ) → settled (arrival_of a) k received u ≡ arrival_of (otherwise a k received u)
unfolding arrival_of settled otherwise
settled_reply none k received u = go (leb k received)
  where
    go : (b : Bool) → ◌≡◌ {A = Arrival} (cond b (Some u) None) (arrival_of (cond b (some u) none))
    go true = refl
    go false = refl
settled_reply (some v) k received u = refl

-- What is replied stays.
settled_some : (a : Arrival) (k received u : ℕ) → is_some a ≡ true → a ≡ settled a k received u
unfolding settled
settled_some None k received u h = absurd (true≢false (sym h))
settled_some (Some v) k received u h = refl

-- Where nothing is replied yet, and nothing is now.
pub not_settled : (a b : Arrival) → is_some a ≡ false → is_some b ≡ false → a ≡ b
not_settled None None h l = refl
not_settled None (Some w) h l = absurd (true≢false l)
not_settled (Some v) b h l = absurd (true≢false h)

-- All replies of a round.
module _ (page sets ends : List ℕ) (u : ℕ) (before : List Arrival) where
  pub settled_start : Settled 0 page sets ends u before before
  settled_start = record { size = refl; first = λ i h. absurd (omega arith); rest = λ i h. refl }

  -- a reply that is as it would be settled
  pub settled_same : (mid : List Arrival) (i received : ℕ) → received ≡ received_in sets ends (get_or page (3 * i + 1) 0) (get_or page (3 * i) 0)
      → get_or mid i never ≡ settled (get_or mid i never) (get_or page (3 * i + 2) 0) received u
      → Settled i page sets ends u before mid → Settled (i + 1) page sets ends u before mid
  unfolding question_at
  settled_same mid i received f e g =
      record {
        size = g.size;
        first =
            λ j h.
            elim (ℕ_discrete j i) [
              | yes q ↦
                  rw q
                  (e ∙ ap₂ (λ (x : Arrival) (y : ℕ). settled x (question_at page i).number y u) (g.rest i (omega arith)) f)
              | no d ↦ g.first j (omega arith)
            ];
        rest = λ j h. g.rest j (omega arith);
      }

  pub settled_kept : (mid : List Arrival) (i : ℕ) → is_some (get_or mid i never) ≡ true
      → Settled i page sets ends u before mid → Settled (i + 1) page sets ends u before mid
  settled_kept mid i replied = settled_same mid i _ refl (settled_some (get_or mid i never) _ _ u replied)

  pub settled_more : (mid : List Arrival) (i : ℕ) (v : Arrival) (received : ℕ) → i < length before
      → received ≡ received_in sets ends (get_or page (3 * i + 1) 0) (get_or page (3 * i) 0)
      → v ≡ settled (get_or mid i never) (get_or page (3 * i + 2) 0) received u
      → Settled i page sets ends u before mid → Settled (i + 1) page sets ends u before (set mid i v)
  unfolding question_at
  settled_more mid i v received l f e g =
      record {
        size = length-set mid i v ∙ g.size;
        first =
            λ j h.
            elim (ℕ_discrete j i) [
              | yes q ↦
                  rw q
                  (get_or-set_same mid i v never (omega (arith, g.size))
                  ∙ e
                  ∙ ap₂ (λ (x : Arrival) (y : ℕ). settled x (question_at page i).number y u) (g.rest i (omega arith)) f)
              | no d ↦ get_or-set_other mid i j v never d ∙ g.first j (omega arith)
            ];
        rest = λ j h. get_or-set_other mid i j v never (λ q. omega arith) ∙ g.rest j (omega arith);
      }

-- What the sets and ends say of a station is what it has.
received_got : (L : Links) (u : ℕ) (sets ends last : List ℕ) → Stands L u sets ends last → (r s : ℕ) → r < L.size → s < L.size
    → received_in sets ends r s ≡ got L u r s
unfolding received_in
received_got L u sets ends last k r s lr ls =
    ap₂ (λ (x : ℕ) (b : Bool). x + cond b 1 0) (k.count s ls) (k.each r s s lr ls ls) ∙ sym (got-knows L u r s lr)

answer_zero : (L : Links) (r s k : ℕ) → answer_in L r s k 0 ≡ otherwise none k (got L 0 r s) 0
unfolding answer_in
answer_zero L r s k = refl

answer_suc : (L : Links) (r s k u : ℕ) → answer_in L r s k (suc u) ≡ otherwise (answer_in L r s k u) k (got L (suc u) r s) (suc u)
unfolding answer_in
answer_suc L r s k u = refl

reply_none : arrival_of none ≡ never
unfolding arrival_of
reply_none = refl

module _ (L : Links) (count : ℕ) (page : List ℕ) (asked : Asked L.size count page) where
  pub replied_start : (sets ends last : List ℕ) (before after : List Arrival) → length before ≡ 64 → ((i : ℕ) → get_or before i never ≡ never)
      → Stands L 0 sets ends last → Settled count page sets ends 0 before after → Replied L 0 count page after
  replied_start sets ends last before after e z k g =
      record {
        size = g.size ∙ e;
        each =
            λ i h.
            let q = question_at page i in
            g.first i h
            ∙ ap₂ (λ (x : Arrival) (y : ℕ). settled x q.number y 0) (z i ∙ sym reply_none)
            (received_got L 0 sets ends last k q.receiver q.sender (asked.receivers i h) (asked.senders i h))
            ∙ settled_reply none q.number (got L 0 q.receiver q.sender) 0
            ∙ ap arrival_of (sym (answer_zero L q.receiver q.sender q.number));
        rest = λ i h. g.rest i h ∙ z i;
      }

  pub replied_more : (u : ℕ) (sets ends last : List ℕ) (before after : List Arrival) → Stands L (u + 1) sets ends last → Replied L u count page before
      → Settled count page sets ends (u + 1) before after → Replied L (u + 1) count page after
  replied_more u sets ends last before after k p g =
      rw (add-one u)
      (record {
        size = g.size ∙ p.size;
        each =
            λ i h.
            let q = question_at page i in
            let e : u + 1 ≡ suc u = add-one u in
            g.first i h
            ∙ ap₂ (λ (x : Arrival) (y : ℕ). settled x q.number y (u + 1)) (p.each i h)
            (received_got L (u + 1) sets ends last k q.receiver q.sender (asked.receivers i h) (asked.senders i h))
            ∙ ap (λ (w : ℕ). settled (arrival_of (answer_in L q.receiver q.sender q.number u)) q.number (got L w q.receiver q.sender) w) e
            ∙ settled_reply (answer_in L q.receiver q.sender q.number u) q.number (got L (suc u) q.receiver q.sender) (suc u)
            ∙ ap arrival_of (sym (answer_suc L q.receiver q.sender q.number u));
        rest = λ i h. g.rest i h ∙ p.rest i h;
      })

-- Bad questions, one more at a time.
pub bad_start : (n : ℕ) (page : List ℕ) → any_below 0 (λ k. is_bad n (question_at page k)) ≡ false
unfolding any_below
bad_start n page = refl

pub bad_more : (n : ℕ) (page : List ℕ) (i : ℕ)
    → any_below (i + 1) (λ k. is_bad n (question_at page k))
    ≡ (any_below i (λ k. is_bad n (question_at page k))
    || is_bad n (record { sender = get_or page (3 * i) 0; receiver = get_or page (3 * i + 1) 0; number = get_or page (3 * i + 2) 0 }))
unfolding any_below question_at
bad_more n page i = rw (add-one i)

-- The stations that question i names.
pub named : (n count : ℕ) (page : List ℕ) → Asked n count page → (i : ℕ) → i < count → (get_or page (3 * i + 1) 0 < n) × (get_or page (3 * i) 0 < n)
unfolding question_at
named n count page a i l = (a.receivers i l, a.senders i l)
