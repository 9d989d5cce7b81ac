use Rattle.std.proofs.Common.{◌≡◌, length, Ok, Err, subst}
use Rattle.gql_ast.specs.TypeView.{ty_of}
use Rattle.gql_syntax.specs.Answers.{Tells}
use Rattle.gql_syntax.specs.Parts.{type_read}
use Rattle.gql_syntax.proofs.TypeAlone.{type_found, more_follows, none_read}
use Rattle.gql_syntax.proofs.types.type_of_text.Goals as goal

pub returns-then-not-is_at_end : goal.returns-then-not-is_at_end
returns-then-not-is_at_end c =
    more_follows c.args.text.now (ty_of c.in-Ok.of) c.read_type.new.cursor.source
    (subst (λ a. type_read 60 (length a.text) a.source ≡ Ok (ty_of c.in-Ok.of, c.read_type.new.cursor.source)) c.new-cursor.ensures c.in-Ok.ensures.reads)
    (c.is_at_end.ensures.not c.if-not-is_at_end.true)

pub returns-in-Ok : goal.returns-in-Ok
returns-in-Ok c =
    type_found c.args.text.now (ty_of c.in-Ok.of) c.read_type.new.cursor.source c.utf8.text
    (subst (λ a. type_read 60 (length a.text) a.source ≡ Ok (ty_of c.in-Ok.of, c.read_type.new.cursor.source)) c.new-cursor.ensures c.in-Ok.ensures.reads)
    (c.is_at_end.ensures.is c.if-not-is_at_end.false)

pub returns-in-Err-Wrong : goal.returns-in-Err-Wrong
returns-in-Err-Wrong c =
    none_read c.args.text.now (c.in-Err-Wrong.field-0-0, c.in-Err-Wrong.field-0-1)
    (subst (λ a. type_read 60 (length a.text) a.source ≡ Err (c.in-Err-Wrong.field-0-0, c.in-Err-Wrong.field-0-1)) c.new-cursor.ensures
    (subst (λ f. Tells f (type_read 60 (length c.new-cursor.result.text) c.new-cursor.result.source)) c.in-Err-Wrong.field-0-is c.in-Err-Wrong.ensures.reads))
