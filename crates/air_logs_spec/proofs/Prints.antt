-- A text of whole lines, by what it does in front of any bytes: it changes nothing in whether they
-- are a listing, and puts its edits before theirs. So texts go one behind the other, and nothing
-- above looks at bytes.
use Prim.Native.Nat.{ℕ, zero, suc, ◌<◌}
use mathlib.Core.Path.{◌≡◌, refl, sym, ap, subst, ◌∙◌}
use mathlib.Core.Bool.{true, cond, ◌&&◌}
use mathlib.Core.List.{List, [], ◌∷◌, ◌++◌, append_assoc, append-nil}
use native.Mathlib.Omega.{arith}
use lib.Dec.{eqb}
use Rattle.bodies.specs.declared.Body.{Body}
use Rattle.bodies.specs.Body.{kind_of, event_of, argument_of}
use Rattle.listing_lines.specs.Lines.{airing, line_bytes, end_line}
use Rattle.listing_lines.specs.Reports.{joined}
use Rattle.air_logs_spec.specs.Form.{is_listing}
use Rattle.air_logs_spec.specs.Logs.{Edit, is_kept, log_of}
use Rattle.air_logs_spec.proofs.Form.{before_listing, before_log, end_listing, end_log}
use Rattle.air_logs_spec.proofs.ReadBack.{InColumns, ReadsAs, line_text, line_ends, reads_back, line_form, line_edit}

-- of station p these edits are kept
pub record Prints (p : ℕ) (text : List ℕ) (edits : List Edit) : Type 0 where
  pub form : (s : List ℕ) → is_listing (text ++ s) ≡ is_listing s
  pub kept : (s : List ℕ) → log_of p (text ++ s) ≡ edits ++ log_of p s

module _ {p : ℕ} where
  pub prints_none : Prints p [] []
  prints_none = record { form = λ s. refl; kept = λ s. refl }

  pub prints_as : {text : List ℕ} {xs ys : List Edit} → xs ≡ ys → Prints p text xs → Prints p text ys
  prints_as {text} e x = subst (λ (l : List Edit). Prints p text l) e x

  pub prints_both : {a b : List ℕ} {xs ys : List Edit} → Prints p a xs → Prints p b ys → Prints p (a ++ b) (xs ++ ys)
  prints_both {a} {b} {xs} {ys} x y =
      record {
        form = λ s. ap is_listing (append_assoc a b s) ∙ x.form (b ++ s) ∙ y.form s;
        kept =
            λ s. ap (log_of p) (append_assoc a b s) ∙ x.kept (b ++ s) ∙ ap (λ (l : List Edit). xs ++ l) (y.kept s)
            ∙ sym (append_assoc xs ys (log_of p s));
      }

-- the edit of a body with its source
abbrev pub edit_of : ℕ → Body → Edit
edit_of source body = record { source = source; kind = kind_of body; event = event_of body; argument = argument_of body }

module _ (p round letter station source : ℕ) (body : Body) (c : InColumns round letter station source body) where
  abbrev text : List ℕ
  text = line_text round letter station source body

  read : ReadsAs text round letter station source body
  read = reads_back round letter station source body c

  split : (s : List ℕ) → line_bytes round letter station source body ++ s ≡ text ++ (10 ∷ s)
  split s = ap (λ (l : List ℕ). l ++ s) (line_ends round letter station source body) ∙ append_assoc text (10 ∷ []) s

  kept_is : is_kept p text ≡ (eqb letter airing && eqb station p)
  unfolding is_kept
  kept_is = rw (read.letter_is, read.station_is)

  line_log : (s : List ℕ) → log_of p (text ++ (10 ∷ s)) ≡ cond (eqb letter airing && eqb station p) (edit_of source body ∷ []) [] ++ log_of p s
  line_log s =
      before_log p text s (line_form text c read)
      ∙ (λ i. cond (kept_is i) (line_edit text c read i ∷ []) [] ++ log_of p s)

  pub prints_line : Prints p (line_bytes round letter station source body) (cond (eqb letter airing && eqb station p) (edit_of source body ∷ []) [])
  prints_line =
      record {
        form = λ s. ap is_listing (split s) ∙ before_listing text s (line_form text c read);
        kept = λ s. ap (log_of p) (split s) ∙ line_log s;
      }

-- what f keeps of each place below n
unfoldable pub flat : ℕ → (ℕ → List Edit) → List Edit
flat zero f = []
flat (suc k) f = flat k f ++ f k

pub prints-joined :
    (p n : ℕ) (text : ℕ → List ℕ) (edits : ℕ → List Edit) → ((k : ℕ) → k < n → Prints p (text k) (edits k)) → Prints p (joined n text) (flat n edits)
unfolding joined flat
prints-joined p zero text edits h = prints_none
prints-joined p (suc n) text edits h = prints_both (prints-joined p n text edits (λ k l. h k (omega arith))) (h n (omega arith))

-- nothing is kept of lines that are not kept
pub flat_none : (n : ℕ) → flat n (λ k. []) ≡ []
unfolding flat
flat_none zero = refl
flat_none (suc n) = rw (flat_none n)

-- lines, and then the last line
module _ (p : ℕ) (text : List ℕ) (edits : List Edit) (h : Prints p text edits) where
  pub listing_form : is_listing (text ++ end_line) ≡ true
  listing_form = h.form end_line ∙ end_listing

  pub listing_log : log_of p (text ++ end_line) ≡ edits
  listing_log = h.kept end_line ∙ ap (λ (l : List Edit). edits ++ l) (end_log p) ∙ append-nil edits
