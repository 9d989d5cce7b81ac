-- What the text is told to be.
use Rattle.std.proofs.Common.{◌≡◌, option_map}
use Rattle.std.proofs.lemmas.Result.{IfOk-weaker}
use Rattle.gql_syntax.specs.gql_ast.TypeView.{ty_of}
use Rattle.gql_syntax.specs.TypeTexts.{TellsType}
use Rattle.relay_marks.specs.TypeTexts.{type_in}
use Rattle.relay_marks.proofs.TypeSteps.{type_is}
use Rattle.relay_marks.proofs.local_variables.type_in.Goals as goal

pub returns : goal.returns
returns c =
    IfOk-weaker c.type_of_text.result (TellsType c.args.text.now) (λ of. option_map ty_of of ≡ type_in c.args.text.now)
    (λ of told. type_is c.args.text.now c.utf8.text of told) c.type_of_text.ensures
