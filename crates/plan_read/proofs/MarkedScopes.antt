-- The scope of a fragment that is read by itself means, where the values of its local variables stand under marked names, the environment in
-- which these shadow the operation's own.
use Rattle.std.proofs.Common.{◌≡◌, Bool, true, false, true≢false, cond, [], ◌∷◌, ◌++◌, codes, Option, Some, None, bytes_eq, refl, ap, sym, ◌∙◌}
use Rattle.std.specs.Prelude.{is_some}
use Rattle.plan_ir.specs.gql_ast.Value.{Val}
use Rattle.plan_ir.specs.gql_plain.Order.{member_at}
use Rattle.plan_ir.specs.gql_plain.Tree.{Tree}
use Rattle.plan_ir.specs.Substitution.{default_named, mark_local, scope_of_own}
use Rattle.plan_read.specs.Laws.{AreLocals}
use Rattle.plan_build.proofs.plan_collect_laws.Evaluating.{Means, found-with_pair}
use Rattle.plan_ir.specs.relay_marks.Locals.{locals_of}
use Rattle.plan_build.specs.relay_model.Readings.{shadowed_by, with_marked}
use Rattle.plan_ir.specs.schema_tables.Types.{Text}
use Rattle.plan_ir.specs.schema_types.Environments.{Values, evaluation, or_null}
use Rattle.plan_ir.specs.schema_types.Sites.{FragmentAt}

abbrev or_else : Option Tree → Option Tree → Option Tree
or_else (Some x) o = Some x
or_else None o = o

-- what is put shadows what was there
found_shadowed : (own : Values) (scope : Values) (n : Text) → member_at (shadowed_by own scope) n ≡ or_else (member_at scope n) (member_at own n)
found_shadowed own [] n = refl
found_shadowed own (x ∷ xs) n = found-with_pair x.0 x.1 (shadowed_by own xs) n ∙ on (bytes_eq x.0 n) (found_shadowed own xs n) where
  on : (b : Bool) → member_at (shadowed_by own xs) n ≡ or_else (member_at xs n) (member_at own n)
      → cond b (Some x.1) (member_at (shadowed_by own xs) n) ≡ or_else (cond b (Some x.1) (member_at xs n)) (member_at own n)
  on true rest = refl
  on false rest = rest

-- a value stands under its marked name
found_marked : (own : Values) (scope : Values) (n : Text) → member_at (with_marked own scope) (codes ":" ++ n) ≡ or_else (member_at scope n) (member_at own (codes ":" ++ n))
found_marked own [] n = refl
found_marked own (x ∷ xs) n = found-with_pair (codes ":" ++ x.0) x.1 (with_marked own xs) (codes ":" ++ n) ∙ on (bytes_eq x.0 n) (found_marked own xs n) where
  on : (b : Bool) → member_at (with_marked own xs) (codes ":" ++ n) ≡ or_else (member_at xs n) (member_at own (codes ":" ++ n))
      → cond b (Some x.1) (member_at (with_marked own xs) (codes ":" ++ n)) ≡ or_else (cond b (Some x.1) (member_at xs n)) (member_at own (codes ":" ++ n))
  on true rest = refl
  on false rest = rest

pub marked_means : (f : FragmentAt) (own scope : Values) → AreLocals f scope → Means (with_marked own scope) (scope_of_own f) (shadowed_by (with_marked own scope) scope)
marked_means f own scope locals n =
    on (default_named (locals_of f.directives) n) (member_at scope n) (found_marked own scope n) (locals n) ∙ sym (ap or_null (found_shadowed (with_marked own scope) scope n))
  where
    all : Values
    all = with_marked own scope

    on : (d : Option (Option Val)) (o : Option Tree) → member_at all (codes ":" ++ n) ≡ or_else o (member_at own (codes ":" ++ n)) → is_some o ≡ is_some d
        → evaluation all (mark_local n d) ≡ or_null (or_else o (member_at all n))
    on None None e h = refl
    on None (Some x) e h = absurd (true≢false h)
    on (Some d) None e h = absurd (true≢false (sym h))
    on (Some d) (Some x) e h = ap or_null e
