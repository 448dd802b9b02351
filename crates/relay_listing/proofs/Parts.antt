-- A part passed to the reader, call after call, and a script, part after part.
use Rattle.std.proofs.Common.{ℕ, ◌+◌, ◌-◌, ◌≤◌, ◌≡◌, List, [], ◌++◌, length, take, drop, arith, sym, ap, refl, ◌∙◌, Option, None, Some}
use Rattle.std.proofs.lemmas.List.{append_assoc, append-nil, length-drop, take_all}
use Rattle.std.proofs.Math.Seq.{take-add, take-append_seam}
use Rattle.std.specs.Io.KnownBytes.{Appends, Consumes}
use Rattle.listing_lines.specs.Lines.{Put, placed}
use Rattle.listing_spec.specs.declared.reading.Reader.{Reader}
use Rattle.listing_spec.specs.declared.reading.FeedAnswer.{FeedAnswer}
use Rattle.listing_spec.specs.Remaining.{Feeds, remaining, beginning}
use Rattle.listing_spec.specs.Whole.{at_first, then_fed}
use Rattle.listing_spec.proofs.WholeScript.{lists_whole}
use Rattle.relay_listing.specs.Passing.{Passes, Reads, Lists}

-- what is written twice
appends_none : (a : Option (List ℕ)) → Appends a a []
appends_none None = tt
appends_none (Some xs) = sym (append-nil xs)

appends_more : (a b c : Option (List ℕ)) (s t : List ℕ) → Appends a b s → Appends b c t → Appends a c (s ++ t)
appends_more None b c s t p q = tt
appends_more (Some xs) None c s t p q = elim p [ ]
appends_more (Some xs) (Some ys) None s t p q = elim q [ ]
appends_more (Some xs) (Some ys) (Some zs) s t p q = rw (← append_assoc xs s t, ← p) q

consumes_none : (a : Option (List ℕ)) → Consumes a a []
consumes_none None = tt
consumes_none (Some xs) = refl

consumes_more : (a b c : Option (List ℕ)) (s t : List ℕ) → Consumes a b s → Consumes b c t → Consumes a c (s ++ t)
consumes_more None b c s t p q = tt
consumes_more (Some xs) None c s t p q = elim p [ ]
consumes_more (Some xs) (Some ys) None s t p q = elim q [ ]
consumes_more (Some xs) (Some ys) (Some zs) s t p q = rw (append_assoc s t zs, ← q) p

pub passes_none : (r : Reader) (w : Option (List ℕ)) → Passes r [] r w w
passes_none r w =
    record { text = []; reaches = λ read listed g. rw (append-nil read, append-nil listed) g; written = appends_none w }

-- one call more, on what is left of the part, and what it prints written
pub passes_more :
    (r r' : Reader) (part entry exit : List ℕ) (from : ℕ) (f : FeedAnswer) (w w' w'' : Option (List ℕ)) →
    Passes r (take from part) r' w w' → Feeds r' (take (length part - from) (drop from part)) entry exit f →
    Appends w' w'' (take f.len exit) → Passes r (take (from + f.read) part) f.reader w w''
passes_more r r' part entry exit from f w w' w'' p q u =
    let left = take (length part - from) (drop from part) in
    let all : left ≡ drop from part = take_all (length part - from) (drop from part) (omega (arith, length-drop from part)) in
    let parts : take (from + f.read) part ≡ take from part ++ take f.read left =
    take-add from f.read part ∙ ap (λ (l : List ℕ). take from part ++ take f.read l) (sym all) in
    record {
      text = p.text ++ take f.len exit;
      reaches = λ read listed g.
          rw (parts, ← append_assoc read (take from part) (take f.read left), ← append_assoc listed p.text (take f.len exit))
          (then_fed left entry exit f (p.reaches read listed g) q);
      written = appends_more w w' w'' p.text (take f.len exit) p.written u;
    }

pub passes_all :
    (r r' : Reader) (part : List ℕ) (from : ℕ) (w w' : Option (List ℕ)) → length part ≤ from →
    Passes r (take from part) r' w w' → Passes r part r' w w'
passes_all r r' part from w w' h p = rw (take_all from part h) at p

pub reads_none : (i w : Option (List ℕ)) → Reads beginning i i w w
reads_none i w =
    record { read = []; text = []; reached = at_first; taken = consumes_none i; written = appends_none w }

-- one part more
pub reads_more :
    (r r' : Reader) (part : List ℕ) (i i' i'' w w' w'' : Option (List ℕ)) → Reads r i i' w w' → Consumes i' i'' part →
    Passes r part r' w' w'' → Reads r' i i'' w w''
reads_more r r' part i i' i'' w w' w'' p t q =
    record {
      read = p.read ++ part;
      text = p.text ++ q.text;
      reached = q.reaches p.read p.text p.reached;
      taken = consumes_more i i' i'' p.read part p.taken t;
      written = appends_more w w' w'' p.text q.text p.written q.written;
    }

-- a part without bytes, at the end of the script
pub reads_end :
    (r : Reader) (part : List ℕ) (i i' i'' w w' : Option (List ℕ)) → part ≡ [] → Reads r i i' w w' → Consumes i' i'' part →
    Reads r i i'' w w'
reads_end r part i i' i'' w w' e p t =
    record {
      read = p.read ++ part;
      text = p.text;
      reached = rw (e, append-nil p.read) p.reached;
      taken = consumes_more i i' i'' p.read part p.taken t;
      written = p.written;
    }

-- and then the end of the script
pub lists_finished :
    (r : Reader) (i i' w w' w'' : Option (List ℕ)) → Reads r i i' w w' → Appends w' w'' (remaining r []) → Lists i i' w w''
lists_finished r i i' w w' w'' p u =
    let whole = lists_whole r p.read p.text p.reached in
    let written = appends_more w w' w'' p.text (remaining r []) p.written u in
    record { read = p.read; taken = p.taken; written = rw whole at written }

-- what a call put at the front of the buffer
pub put_front : (l m text : List ℕ) (len : ℕ) → Put l m 0 len text → take len m ≡ text
unfolding placed
put_front l m text len p =
    let size : len ≡ length text = omega (arith, p.behind) in
    rw (p.holds, size) (take-append_seam text (drop (0 + length text) l))
