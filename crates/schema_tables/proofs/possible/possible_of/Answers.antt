use Rattle.std.proofs.Common.{◌≡◌, ℕ, List, Bool, [], ◌∷◌, ◌++◌, length, slice_index_or, is_some, ap, refl, ◌∙◌, arith, length-append}
use Rattle.std.proofs.lemmas.List.{get_or_default}
use Rattle.schema_tables.specs.Places.{first_at}
use Rattle.std.specs.List.{filter}
use Rattle.gql_graph.specs.gql_plain.Order.{sorted_texts}
use Rattle.schema_tables.proofs.Finding.{within}
use Rattle.schema_tables.proofs.Grouping.{each_next, group_is, members_here}
use Rattle.schema_tables.proofs.possible.possible_of.Goals as goal
use Rattle.schema_tables.specs.Objects.{members_at, names_object}
use Rattle.schema_tables.specs.Parts.{is_type}
use Rattle.schema_tables.specs.Types.{union_members_of}

pub definitions-preserved : goal.definitions-preserved
definitions-preserved c =
    let is_object : List ℕ → Bool = λ n. is_some (first_at (names_object n) c.args.definitions.now) in
    let wanted : ℕ → List (List ℕ) = λ k. sorted_texts (slice_index_or c.in_ok-groups.groups.items k [] ++ filter is_object (members_at c.args.definitions.now k)) in
    let grown : c.push.new.self.items ≡ c.definitions.possible.items ++ c.in_ok-with_members.field-0 ∷ [] = c.in_ok-push.ensures.items in
    let group : c.index.result.now ≡ slice_index_or c.in_ok-groups.groups.items c.definitions.at [] =
    c.index.ensures
    ∙ get_or_default c.in_ok-groups.groups.items c.definitions.at c.index.result.now [] (omega (arith, c.in_ok-groups.ensures.all, c.definitions-test.true)) in
    let made : c.in_ok-with_members.field-0 ≡ sorted_texts (c.index.result.now ++ filter is_object (union_members_of c.index-definitions-at.result)) = c.in_ok-with_members.ensures in
    record {
      all = omega (arith, length-append c.definitions.possible.items (c.in_ok-with_members.field-0 ∷ []), ap length grown, c.definitions.invariant.all);
      each =
          each_next wanted c.definitions.possible.items c.push.new.self.items c.in_ok-with_members.field-0 c.definitions.at c.definitions.invariant.all c.definitions.invariant.each grown
          (made
          ∙ (λ i. sorted_texts (group i
          ++ filter is_object (members_here c.args.definitions.now c.definitions.at c.index-definitions-at.result c.definitions-test.true c.index-definitions-at.is i))));
    }

pub returns-clause-found : goal.returns-clause-found
returns-clause-found c = λ n at here.
    let low = within (is_type n) c.args.definitions.now at here in
    c.definitions.invariant.each at (omega (arith, low, c.definitions-test.false))
    ∙ group_is c.args.definitions.now n at (slice_index_or c.in_ok-groups.groups.items at []) (λ t. is_some (first_at (names_object t) c.args.definitions.now)) here
    (λ t. c.in_ok-groups.ensures.groups at t) (λ t. refl)
