-- A value in which no variable stands is the same in each environment.
use Rattle.std.proofs.Common.{◌≡◌, true, true≢false, List, refl, ap, sym}
use Rattle.schema_types.specs.gql_ast.Value as v
use Rattle.schema_types.specs.gql_ast.Value.{Val, Vals, Members}
use Rattle.schema_types.specs.gql_plain.Tree as t
use Rattle.schema_types.proofs.schema_tables_laws.Counting.{and_left, and_right}
use Rattle.schema_types.specs.Environments.{Values, evaluation, items_evaluated, pairs_evaluated, with_new_pair}
use Rattle.constant_values.specs.Fittings.{are_constant, have_constants, is_constant}

mutual
  pub constant_value : (env other : Values) (x : Val) → is_constant x ≡ true → evaluation env x ≡ evaluation other x
  constant_value env other (v.variable n) e = absurd (true≢false (sym e))
  constant_value env other (v.int z) e = refl
  constant_value env other (v.text s) e = refl
  constant_value env other (v.truth b) e = refl
  constant_value env other v.null e = refl
  constant_value env other (v.enum n) e = refl
  constant_value env other (v.list xs) e = ap t.list (constant_items env other xs e)
  constant_value env other (v.object ms) e = ap (λ (ps : Values). t.object (t.members_of ps)) (constant_members env other ms e)

  pub constant_items : (env other : Values) (xs : Vals) → are_constant xs ≡ true → items_evaluated env xs ≡ items_evaluated other xs
  constant_items env other v.no_vals e = refl
  constant_items env other (v.val x xs) e =
      let first = constant_value env other x (and_left (is_constant x) (are_constant xs) e) in
      let rest = constant_items env other xs (and_right (is_constant x) (are_constant xs) e) in
      λ i. t.tree (first i) (rest i)

  pub constant_members : (env other : Values) (ms : Members) → have_constants ms ≡ true → pairs_evaluated env ms ≡ pairs_evaluated other ms
  constant_members env other v.no_members e = refl
  constant_members env other (v.member n x ms) e =
      let first = constant_value env other x (and_left (is_constant x) (have_constants ms) e) in
      let rest = constant_members env other ms (and_right (is_constant x) (have_constants ms) e) in
      λ i. with_new_pair n (first i) (rest i)
