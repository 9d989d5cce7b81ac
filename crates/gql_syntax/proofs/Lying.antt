-- The faults that a machine tells lie at characters of the text, or at its end.
use Rattle.std.proofs.Common.{ℕ, List, Option, Some, None, Result, Ok, Err, length, subst, arith, IsCharBoundary}
use Rattle.std.specs.Prelude.{IsUtf8}
use Rattle.std.proofs.lemmas.Str.{IsCharBoundary-end}
use Rattle.gql_lex.specs.Sources.{Source, ended, faulty, token, lex_from}
use Rattle.gql_lex.specs.Toks.{Tok, tok_of_piece}
use Rattle.gql_lex.proofs.Gaps.{describes}
use Rattle.gql_syntax.specs.Answers.{LiesIn, Tells}
use Rattle.gql_syntax.specs.Nexts.{InOrder}
use Rattle.gql_syntax.specs.Run.{Halt, Stopped, at_end, stamp, run_from, run}
use Rattle.gql_syntax.specs.declared.fault.Fault.{Fault}
use Rattle.gql_syntax.specs.declared.fault.Fault.TheVariants.{Wrong, NoMemory}
use Rattle.gql_syntax.proofs.Sources.{in_order}

abbrev pub Lies : {A : Type 0} → List ℕ → Result A Stopped → Type 0
Lies text (Ok a) = Unit {0}
Lies text (Err f) = IsCharBoundary text f.1

module _ {S A : Type 0} (step : S → Tok → Result S Halt) (done : S → Option A) (text : List ℕ) where
  end_lies : (o : Option A) → Lies text (at_end (length text) o)
  end_lies (Some a) = tt
  end_lies None = IsCharBoundary-end text

  stamp_lies : (at : ℕ) (r : Result S Halt) → IsCharBoundary text at → Lies text (stamp at r)
  stamp_lies at (Ok s) b = tt
  stamp_lies at (Err h) b = b

  pub lies : (s : Source) (r : Result S Stopped) (low : ℕ) → InOrder text low s → Lies text r → Lies text (run_from step done (length text) r s)
  lies ended (Ok s) low o h = end_lies (done s)
  lies (faulty code at) (Ok s) low o h = o.1
  lies (token p rest) (Ok s) low o h = lies rest (stamp p.start (step s (tok_of_piece p))) p.start o.3 (stamp_lies p.start (step s (tok_of_piece p)) o.1)
  lies ended (Err f) low o h = h
  lies (faulty code at) (Err f) low o h = h
  lies (token p rest) (Err f) low o h = h

  -- what a parser of the whole text tells to be wrong
  pub fault_lies : IsUtf8 text → (s : S) (f : Fault) → Tells f (run step done (length text) s (lex_from 0 text)) → LiesIn text f
  fault_lies u s (Wrong code at) t = subst (λ r. Lies text r) t (lies (lex_from 0 text) (Ok s) 0 (in_order text 0 0 (lex_from 0 text) (omega arith) (describes text u)) tt)
  fault_lies u s NoMemory t = tt
