-- No Name is marked. So the environment of a fragment that is read by itself gives each Name what the environment gives in which the fragment
-- is entered.
use Rattle.std.proofs.Common.{◌≡◌, Bool, true, false, true≢false, cond, List, [], ◌∷◌, ◌++◌, codes, Option, Some, None, bytes_eq, refl, sym, ap, ◌∙◌}
use Rattle.std.proofs.lemmas.Slice.Eq.{bytes_eq-Decides}
use Rattle.plan_ir.specs.gql_ast.Value.{Val}
use Rattle.plan_ir.specs.gql_ast.declared.directive.Directive.{Directive}
use Rattle.plan_ir.specs.gql_graph.Rules.{each}
use Rattle.plan_ir.specs.gql_plain.Names.{is_name}
use Rattle.plan_ir.specs.gql_plain.Order.{member_at}
use Rattle.plan_ir.specs.gql_plain.Tree.{Tree}
use Rattle.plan_ir.specs.gql_syntax.Words.{IsName}
use Rattle.plan_ir.specs.Substitution.{Arguments, arguments_in}
use Rattle.plan_project.specs.plan_read.Constants.{HaveConstants, IsConstant}
use Rattle.relay_machine.proofs.plan_collect_laws.Evaluating.{found-with_pair}
use Rattle.relay_machine.specs.plan_collect.Collecting.{environment_inside, local_value, with_locals}
use Rattle.plan_ir.specs.relay_marks.Connections.{value_of_name}
use Rattle.plan_ir.specs.relay_marks.Locals.{Local, locals_of}
use Rattle.relay_machine.specs.relay_model.Readings.{shadowed_by, with_marked}
use Rattle.retained_reads.proofs.Agreeing.{Agree}
use Rattle.plan_ir.specs.schema_tables.Types.{Text}
use Rattle.plan_ir.specs.schema_types.Environments.{Values}
use Rattle.plan_ir.specs.schema_types.Sites.{FragmentAt}
use Rattle.plan_ir.proofs.constant_values_laws.ConstantValues.{constant_value}

-- ---- names

not_marked : (m n : Text) → IsName n → bytes_eq (codes ":" ++ m) n ≡ false
not_marked m n i = on (bytes_eq (codes ":" ++ m) n) refl
  where
    on : (b : Bool) → bytes_eq (codes ":" ++ m) n ≡ b → b ≡ false
    on true e = absurd (true≢false (sym i ∙ sym (ap is_name ((bytes_eq-Decides (codes ":" ++ m) n).0 e))))
    on false e = refl

abbrev or_else : Option Tree → Option Tree → Option Tree
or_else (Some x) o = Some x
or_else None o = o

-- what is put shadows what was there
found_shadowed : (own scope : Values) (n : Text) → member_at (shadowed_by own scope) n ≡ or_else (member_at scope n) (member_at own n)
found_shadowed own [] n = refl
found_shadowed own (x ∷ xs) n = found-with_pair x.0 x.1 (shadowed_by own xs) n ∙ on (bytes_eq x.0 n) (found_shadowed own xs n)
  where
    on : (b : Bool) → member_at (shadowed_by own xs) n ≡ or_else (member_at xs n) (member_at own n)
        → cond b (Some x.1) (member_at (shadowed_by own xs) n) ≡ or_else (cond b (Some x.1) (member_at xs n)) (member_at own n)
    on true rest = refl
    on false rest = rest

-- marked names change nothing for Names
pub marked_agrees : (own scope : Values) → Agree own (with_marked own scope)
marked_agrees own [] n i = refl
marked_agrees own (x ∷ xs) n i =
    marked_agrees own xs n i
    ∙ sym (ap (λ b. cond b (Some x.1) (member_at (with_marked own xs) n)) (not_marked x.0 n i))
    ∙ sym (found-with_pair (codes ":" ++ x.0) x.1 (with_marked own xs) n)

-- ---- environments inside

module _ (own env : Values) (given : Arguments) where
  default_same : (given default : Option Val) → IsConstant default → local_value own env given default ≡ local_value [] env given default
  default_same (Some x) d c = refl
  default_same None (Some d) c = constant_value own [] d c
  default_same None None c = refl

  -- the values of local variables, and then the operation's own
  entered : (ls : List Local) → HaveConstants ls → (n : Text) → member_at (with_locals own env given ls) n ≡ or_else (member_at (with_locals [] env given ls) n) (member_at own n)
  entered [] c n = refl
  entered (l ∷ ls) c n =
      let value = default_same (value_of_name given l.name) l.default c.0 in
      found-with_pair l.name (local_value own env (value_of_name given l.name) l.default) (with_locals own env given ls) n
      ∙ ap (λ x. cond (bytes_eq l.name n) (Some x) (member_at (with_locals own env given ls) n)) value
      ∙ on (bytes_eq l.name n) (entered ls c.1 n)
      ∙ sym (ap (λ o. or_else o (member_at own n)) (found-with_pair l.name (local_value [] env (value_of_name given l.name) l.default) (with_locals [] env given ls) n))
    where
      on : (b : Bool) → member_at (with_locals own env given ls) n ≡ or_else (member_at (with_locals [] env given ls) n) (member_at own n)
          → cond b (Some (local_value [] env (value_of_name given l.name) l.default)) (member_at (with_locals own env given ls) n)
          ≡ or_else (cond b (Some (local_value [] env (value_of_name given l.name) l.default)) (member_at (with_locals [] env given ls) n)) (member_at own n)
      on true rest = refl
      on false rest = rest

-- the scope that a spread gives to a fragment
abbrev pub scope_at : Values → List Directive → FragmentAt → Values
scope_at env ds f = with_locals [] env (each arguments_in ds) (locals_of f.directives)

-- the environment inside, and that of the fragment by itself under this scope
pub alone_agrees : (own env : Values) (ds : List Directive) (f : FragmentAt) → HaveConstants (locals_of f.directives)
    → Agree (environment_inside own env ds f) (shadowed_by (with_marked own (scope_at env ds f)) (scope_at env ds f))
alone_agrees own env ds f c n i =
    entered own env (each arguments_in ds) (locals_of f.directives) c n
    ∙ ap (or_else (member_at (scope_at env ds f) n)) (marked_agrees own (scope_at env ds f) n i)
    ∙ sym (found_shadowed (with_marked own (scope_at env ds f)) (scope_at env ds f) n)
