-- The columns of a field hold a number exactly as it is written, and no other bytes do. So two
-- fields of the same width have the same number exactly if they have the same bytes, and no field
-- has a line end.
use Prim.Native.Nat.{ℕ, zero, suc, ◌<◌}
use mathlib.Core.Path.{◌≡◌, refl, sym, ap, subst, ◌∙◌}
use mathlib.Core.Bool.{Bool, true, false, ◌&&◌, false≢true}
use mathlib.Core.List.{List, [], ◌∷◌, ◌++◌}
use native.Mathlib.Omega.{arith}
use lib.Dec.{leb, eqb}
use lib.IntN.{ℤ, pos, negsuc, nat_abs}
use lib.ListN.{length}
use borrow.Author.Tests.{eqb-true, eq-eqb, leb-true, le-leb}
use Rattle.lists.proofs.Laws.{and_both, and_left, and_right}
use Rattle.columns.specs.declared.reader.Reading.{Reading}
use Rattle.columns.specs.declared.reader.Reading.TheVariants.{Blank, Minus, Number, Malformed}
use Rattle.columns.specs.Reading.{read_columns}
use Rattle.columns.proofs.Only.{reads_exactly}
use Rattle.columns.proofs.RoundTrip.{read_written}
use Rattle.columns.specs.Writing.{Fits, columns, nat_columns}
use Rattle.script.specs.Line.{is_natural, natural_of, is_whole, whole_of, signed_of}
use Rattle.listing_spec.proofs.LineEnds.{no_end, no_end-columns}
use Rattle.air_logs_spec.specs.Form.{same_bytes}
use Rattle.air_logs_spec.specs.Compare.{same_whole}

-- two tests that hold together
pub together : (a b : Bool) → (a ≡ true → b ≡ true) → (b ≡ true → a ≡ true) → a ≡ b
together true b f g = sym (f refl)
together false true f g = g refl
together false false f g = refl

-- the same bytes
pub same_self : (a : List ℕ) → same_bytes a a ≡ true
unfolding same_bytes
same_self [] = refl
same_self (x ∷ a) = and_both (eq-eqb x x refl) (same_self a)

pub same_only : (a b : List ℕ) → same_bytes a b ≡ true → a ≡ b
unfolding same_bytes
same_only [] [] h = refl
same_only [] (y ∷ b) h = absurd (false≢true h)
same_only (x ∷ a) [] h = absurd (false≢true h)
same_only (x ∷ a) (y ∷ b) h =
    let e : x ≡ y = eqb-true x y (and_left (eqb x y) (same_bytes a b) h) in
    let f : a ≡ b = same_only a b (and_right (eqb x y) (same_bytes a b) h) in
    (λ i. e i ∷ f i)

and_assoc : (a b c : Bool) → ((a && b) && c) ≡ (a && (b && c))
and_assoc true b c = refl
and_assoc false b c = refl

pub same_append : (a c b d : List ℕ) → length a ≡ length b → same_bytes (a ++ c) (b ++ d) ≡ (same_bytes a b && same_bytes c d)
unfolding same_bytes
same_append [] c [] d e = refl
same_append [] c (y ∷ b) d e = absurd (omega arith)
same_append (x ∷ a) c [] d e = absurd (omega arith)
same_append (x ∷ a) c (y ∷ b) d e =
    ap (λ (t : Bool). eqb x y && t) (same_append a c b d (omega arith)) ∙ sym (and_assoc (eqb x y) (same_bytes a b) (same_bytes c d))

-- a field of the form, with its number
record Holds (minus : Bool) (v : ℕ) (bytes : List ℕ) : Type 0 where
  read : read_columns bytes ≡ Number minus v
  bytes_are : bytes ≡ columns minus (length bytes) v

natural_holds : (bytes : List ℕ) → is_natural (read_columns bytes) ≡ true → (v : ℕ) × Holds false v bytes
natural_holds bytes h = go (read_columns bytes) refl h
  where
    go : (r : Reading) → read_columns bytes ≡ r → is_natural r ≡ true → (v : ℕ) × Holds false v bytes
    go Blank e q = absurd (false≢true q)
    go Minus e q = absurd (false≢true q)
    go (Number true v) e q = absurd (false≢true q)
    go (Number false v) e q = (v, record { read = e; bytes_are = ((reads_exactly bytes false v).0 e).0 })
    go Malformed e q = absurd (false≢true q)

whole_holds : (bytes : List ℕ) → is_whole (read_columns bytes) ≡ true → (minus : Bool) × (v : ℕ) × Holds minus v bytes
whole_holds bytes h = go (read_columns bytes) refl h
  where
    go : (r : Reading) → read_columns bytes ≡ r → is_whole r ≡ true → (minus : Bool) × (v : ℕ) × Holds minus v bytes
    go Blank e q = absurd (false≢true q)
    go Minus e q = absurd (false≢true q)
    go (Number minus v) e q = (minus, v, record { read = e; bytes_are = ((reads_exactly bytes minus v).0 e).0 })
    go Malformed e q = absurd (false≢true q)

-- no field has a line end
holds_plain : (minus : Bool) (v : ℕ) (bytes : List ℕ) → Holds minus v bytes → no_end bytes ≡ true
holds_plain minus v bytes h = subst (λ (l : List ℕ). no_end l ≡ true) (sym h.bytes_are) (no_end-columns minus (length bytes) v)

pub natural_plain : (bytes : List ℕ) → is_natural (read_columns bytes) ≡ true → no_end bytes ≡ true
natural_plain bytes h = let n = natural_holds bytes h in holds_plain false n.0 bytes n.1

pub whole_plain : (bytes : List ℕ) → is_whole (read_columns bytes) ≡ true → no_end bytes ≡ true
whole_plain bytes h = let n = whole_holds bytes h in holds_plain n.0 n.1 bytes n.2

-- the same number, the same bytes
holds_same : (minus : Bool) (v : ℕ) (a b : List ℕ) → length a ≡ length b → Holds minus v a → Holds minus v b → a ≡ b
holds_same minus v a b e x y = x.bytes_are ∙ ap (λ (w : ℕ). columns minus w v) e ∙ sym y.bytes_are

pub same_natural :
    (a b : List ℕ) → length a ≡ length b → is_natural (read_columns a) ≡ true → is_natural (read_columns b) ≡ true →
    eqb (natural_of (read_columns a)) (natural_of (read_columns b)) ≡ same_bytes a b
same_natural a b e ha hb = together _ _ forth back
  where
    x : (v : ℕ) × Holds false v a
    x = natural_holds a ha

    y : (v : ℕ) × Holds false v b
    y = natural_holds b hb

    is : (s : List ℕ) (v : ℕ) → Holds false v s → natural_of (read_columns s) ≡ v
    is s v h = rw h.read

    forth : eqb (natural_of (read_columns a)) (natural_of (read_columns b)) ≡ true → same_bytes a b ≡ true
    forth t =
        let v : x.0 ≡ y.0 = sym (is a x.0 x.1) ∙ eqb-true _ _ t ∙ is b y.0 y.1 in
        let f : a ≡ b = holds_same false y.0 a b e (subst (λ (k : ℕ). Holds false k a) v x.1) y.1 in
        subst (λ (l : List ℕ). same_bytes a l ≡ true) f (same_self a)

    back : same_bytes a b ≡ true → eqb (natural_of (read_columns a)) (natural_of (read_columns b)) ≡ true
    back t = eq-eqb _ _ (ap (λ (l : List ℕ). natural_of (read_columns l)) (same_only a b t))

-- a field is the number p, or it has other bytes than p
pub same_number :
    (a : List ℕ) (w p : ℕ) → length a ≡ w → is_natural (read_columns a) ≡ true → Fits false w p →
    eqb (natural_of (read_columns a)) p ≡ same_bytes a (nat_columns w p)
same_number a w p e ha f = together _ _ forth back
  where
    x : (v : ℕ) × Holds false v a
    x = natural_holds a ha

    is : natural_of (read_columns a) ≡ x.0
    is = rw x.1.read

    forth : eqb (natural_of (read_columns a)) p ≡ true → same_bytes a (nat_columns w p) ≡ true
    forth t =
        let v : x.0 ≡ p = sym is ∙ eqb-true _ _ t in
        let g : a ≡ nat_columns w p = x.1.bytes_are ∙ (λ i. columns false (e i) (v i)) in
        subst (λ (l : List ℕ). same_bytes a l ≡ true) g (same_self a)

    back : same_bytes a (nat_columns w p) ≡ true → eqb (natural_of (read_columns a)) p ≡ true
    back t =
        eq-eqb _ _ (ap (λ (l : List ℕ). natural_of (read_columns l)) (same_only a (nat_columns w p) t) ∙ ap natural_of (read_written false w p f))

-- whole numbers
pub same_whole_only : (a b : ℤ) → same_whole a b ≡ true → a ≡ b
same_whole_only (pos m) (pos n) h =
    ap pos (omega (arith, leb-true m n (and_left (leb m n) (leb n m) h), leb-true n m (and_right (leb m n) (leb n m) h)))
same_whole_only (pos m) (negsuc n) h = absurd (false≢true h)
same_whole_only (negsuc m) (pos n) h = absurd (false≢true h)
same_whole_only (negsuc m) (negsuc n) h =
    ap negsuc (omega (arith, leb-true n m (and_left (leb n m) (leb m n) h), leb-true m n (and_right (leb n m) (leb m n) h)))

pub same_whole_self : (z : ℤ) → same_whole z z ≡ true
same_whole_self (pos n) = rw (le-leb n n (omega arith))
same_whole_self (negsuc n) = rw (le-leb n n (omega arith))

-- a number has one sign and one magnitude; no minus stands before a zero
signs : (m n : Bool) (v w : ℕ) → (m ≡ true → 0 < v) → (n ≡ true → 0 < w) → signed_of m v ≡ signed_of n w → (m ≡ n) × (v ≡ w)
signs false false v w f g e = (refl, ap nat_abs e)
signs false true v zero f g e = absurd (omega (arith, g refl))
signs false true v (suc w) f g e = absurd (let z : ◌≡◌ {A = ℕ} 0 1 = cc in omega arith)
signs true false zero w f g e = absurd (omega (arith, f refl))
signs true false (suc v) w f g e = absurd (let z : ◌≡◌ {A = ℕ} 0 1 = cc in omega arith)
signs true true zero w f g e = absurd (omega (arith, f refl))
signs true true (suc v) zero f g e = absurd (omega (arith, g refl))
signs true true (suc v) (suc w) f g e = (refl, ap nat_abs e)

pub same_whole_lem :
    (a b : List ℕ) → length a ≡ length b → is_whole (read_columns a) ≡ true → is_whole (read_columns b) ≡ true →
    same_whole (whole_of (read_columns a)) (whole_of (read_columns b)) ≡ same_bytes a b
same_whole_lem a b e ha hb = together _ _ forth back
  where
    x : (minus : Bool) × (v : ℕ) × Holds minus v a
    x = whole_holds a ha

    y : (minus : Bool) × (v : ℕ) × Holds minus v b
    y = whole_holds b hb

    is : (s : List ℕ) (minus : Bool) (v : ℕ) → Holds minus v s → whole_of (read_columns s) ≡ signed_of minus v
    is s minus v h = rw h.read

    some : (s : List ℕ) (minus : Bool) (v : ℕ) → Holds minus v s → minus ≡ true → 0 < v
    some s minus v h q = (((reads_exactly s minus v).0 h.read).1.behind q).0

    forth : same_whole (whole_of (read_columns a)) (whole_of (read_columns b)) ≡ true → same_bytes a b ≡ true
    forth t =
        let z = sym (is a x.0 x.1 x.2) ∙ same_whole_only _ _ t ∙ is b y.0 y.1 y.2 in
        let p = signs x.0 y.0 x.1 y.1 (some a x.0 x.1 x.2) (some b y.0 y.1 y.2) z in
        let f : a ≡ b =
        x.2.bytes_are ∙ (λ i. columns (p.0 i) (e i) (p.1 i)) ∙ sym y.2.bytes_are in
        subst (λ (l : List ℕ). same_bytes a l ≡ true) f (same_self a)

    back : same_bytes a b ≡ true → same_whole (whole_of (read_columns a)) (whole_of (read_columns b)) ≡ true
    back t =
        subst (λ (l : List ℕ). same_whole (whole_of (read_columns a)) (whole_of (read_columns l)) ≡ true) (same_only a b t)
        (same_whole_self (whole_of (read_columns a)))
