-- The machine of documents has the laws of a machine that reads a grammar.
use Rattle.std.proofs.Common.{◌≡◌, ℕ, Ok, refl, subst}
use Rattle.gql_syntax.specs.gql_lex.Toks.{Tok}
use Rattle.gql_parse.specs.Documents.{documents}
use Rattle.gql_parse.specs.Machine.{State, advance}
use Rattle.gql_parse.proofs.Complete.{complete}
use Rattle.gql_parse.proofs.Ends.{ends_own}
use Rattle.gql_parse.proofs.Lifts.{advance-lifts, advance-opens, lift-so_far, lift-level, lift-seated, lift-finish}
use Rattle.gql_parse.proofs.Mapped.{finish_writes}
use Rattle.gql_parse.proofs.Shapes.{document_shape}
use Rattle.gql_parse.proofs.Standing.{document_machine, Seated, lift}
use Rattle.gql_parse.proofs.Steps.{Steps, Takes, advance-steps}
use Rattle.gql_syntax.proofs.Laws.{Laws}
use Rattle.gql_syntax.proofs.ValueLaws.{from_lifts, from_lifts_unexpected, from_opens}

takes : (limit : ℕ) (s : State) (t : Tok) (next : State) → Seated limit s → advance limit s t ≡ Ok next → Takes limit (document_machine.so_far s) t (document_machine.level_at s t) next
takes limit s t next h e = subst (λ r. Steps limit (document_machine.so_far s) t (document_machine.level_at s t) r) e (advance-steps limit s t h)

pub document_laws : Laws documents document_machine
document_laws = record {
  begins = λ limit. tt;
  empty = λ limit ts. refl;
  sound = λ limit s t next h e. (takes limit s t next h e).sound;
  shallow = λ limit s t next h e. (takes limit s t next h e).shallow;
  seated = λ limit s t next h e. (takes limit s t next h e).seated;
  deep = λ limit s t h e. subst (λ r. Steps limit (document_machine.so_far s) t (document_machine.level_at s t) r) e (advance-steps limit s t h);
  written = finish_writes;
  lift_start = λ k limit. refl;
  lift_step = λ k limit s t next e. from_lifts (lift k) next (advance-lifts k limit s t) e;
  lift_unexpected = λ k limit s t e. from_lifts_unexpected (lift k) (advance-lifts k limit s t) e;
  lift_too_deep = λ limit s t e. let o = from_opens (advance-opens limit s t) e in record { next = o.0; stepped = o.1 };
  lift_so_far = lift-so_far;
  lift_level = lift-level;
  lift_seated = lift-seated;
  lift_finish = lift-finish;
  complete = λ limit ws f h. complete limit ws (document_shape ws f) h;
  ends = λ limit s h. ends_own limit s;
}
