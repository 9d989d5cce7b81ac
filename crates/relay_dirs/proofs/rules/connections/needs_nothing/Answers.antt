-- Nothing has to be given where no name is that of an input that has to be.
use Rattle.std.proofs.Common.{◌≡◌, ℕ, ◌==◌, false, not, ◌&&◌, List, [], ◌∷◌, length, refl, ap, sym, ◌∙◌}
use Rattle.std.proofs.lemmas.Bool.Decides.{Decides-eqb}
use Rattle.std.specs.List.{list_all}
use Rattle.gql_syntax.proofs.gql_plain_laws.Booleans.{both_ways, or_false}
use Rattle.constant_values.proofs.schema_tables_laws.Counting.{count_gives, gives_by}
use Rattle.constant_values.specs.schema_tables.Inputs.{must_be_given}
use Rattle.constant_values.specs.schema_tables.Required.{required_names}
use Rattle.constant_values.specs.schema_tables.Views.{InputDef}
use Rattle.relay_dirs.proofs.rules.connections.needs_nothing.Goals as goal

gives_none : (is : List InputDef) → gives_by (λ n. false) is ≡ list_all (λ (i : InputDef). not (must_be_given i)) is
gives_none [] = refl
gives_none (i ∷ is) = λ k. or_false (not (must_be_given i)) k && gives_none is k

swap : (a b : ℕ) → (a == b) ≡ (b == a)
swap a b = both_ways (a == b) (b == a) (λ e. (Decides-eqb b a).1 (sym ((Decides-eqb a b).0 e))) (λ e. (Decides-eqb a b).1 (sym ((Decides-eqb b a).0 e)))

needs_none : (is : List InputDef) (n : ℕ) → n ≡ length (required_names is) → (n == 0) ≡ list_all (λ (i : InputDef). not (must_be_given i)) is
needs_none is n e = swap n 0 ∙ ap (λ m. 0 == m) e ∙ count_gives (λ t. false) is [] refl (λ t. refl) ∙ gives_none is

pub returns : goal.returns
returns c = needs_none c.args.field.now.arguments c.required_count.result (c.required_count.ensures ∙ ap (λ (is : List InputDef). length (required_names is)) c.arguments.ensures)
