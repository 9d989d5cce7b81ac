-- How what a cursor stands for is stored.
use Rattle.std.specs.Prelude.{ℕ, List, refl}
use Rattle.std.specs.Coded.{Coded, code_by, coded×, coded_ℕ, coded_list}
use Rattle.gql_lex.specs.Codes.{coded_source}
use Rattle.gql_lex.specs.Sources.{Source}
use Rattle.gql_ast.specs.declared.place.FilePlace.{FilePlace}
use Rattle.gql_ast.specs.contracts.place.FilePlace as place
use Rattle.gql_syntax.specs.Places.{Ahead}

abbrev Stored : Type 0
Stored = (ℕ × List ℕ) × (Source × List FilePlace)

abbrev pub coded_ahead : Coded Ahead
coded_ahead =
    code_by Stored (coded× (coded× coded_ℕ (coded_list coded_ℕ)) (coded× coded_source (coded_list place.the_row.coded)))
    (λ a. ((a.file, a.text), (a.source, a.places)))
    (λ q. record { file = q.0.0; text = q.0.1; source = q.1.0; places = q.1.1 }) (λ _. refl)
