-- Environments that give the same to each Name, as names of documents are, and what is the same in them.
use Rattle.std.proofs.Common.{◌≡◌, not, ◌&&◌, ◌||◌, cond, List, [], ◌∷◌, codes, Option, Some, None, bytes_eq, refl, sym, ap, ◌∙◌}
use Rattle.std.specs.List.{AllByRecursion}
use Rattle.std.specs.Option.{IfSome}
use Rattle.plan_ir.specs.gql_ast.Value as v
use Rattle.plan_ir.specs.gql_ast.Value.{Val, Vals, Members, members_of}
use Rattle.plan_ir.specs.gql_ast.declared.directive.Directive.{Directive}
use Rattle.plan_ir.specs.gql_graph.Rules.{each}
use Rattle.plan_ir.specs.gql_plain.Order.{member_at}
use Rattle.plan_ir.specs.gql_plain.Tree as t
use Rattle.plan_ir.specs.gql_syntax.Words.{IsName}
use Rattle.plan_ir.specs.Substitution.{Arguments, arguments_in}
use Rattle.plan_project.proofs.SoundNodes.{SoundLocal, given_in, value_found}
use Rattle.plan_project.proofs.SoundTrees.{SoundArguments, SoundDirective, SoundDirectives, SoundMembers, SoundValue, SoundValues}
use Rattle.relay_machine.proofs.plan_collect_laws.Evaluating.{found-with_pair}
use Rattle.relay_machine.specs.plan_collect.Collecting.{environment_inside, is_left_out, leaves_out, local_value, with_locals}
use Rattle.plan_ir.specs.relay_marks.Connections.{value_of_name}
use Rattle.plan_ir.specs.relay_marks.Locals.{Local, locals_of}
use Rattle.plan_ir.specs.schema_tables.Types.{Text}
use Rattle.plan_ir.specs.schema_types.Environments.{Values, arguments_in_environment, evaluation, is_true, items_evaluated, or_null, pairs_evaluated, value_in, with_new_pair, with_pair}
use Rattle.plan_ir.specs.schema_types.Sites.{FragmentAt}

-- the same value under each Name
abbrev pub Agree : (env other : Values) → Type 0
Agree env other = (n : Text) → IsName n → member_at env n ≡ member_at other n

-- ---- values of documents

module _ (env other : Values) (agree : Agree env other) where
  mutual
    value_same : (x : Val) → SoundValue x → evaluation env x ≡ evaluation other x
    value_same (v.variable n) h = ap or_null (agree n h)
    value_same (v.int z) h = refl
    value_same (v.text s) h = refl
    value_same (v.truth b) h = refl
    value_same v.null h = refl
    value_same (v.enum n) h = refl
    value_same (v.list xs) h = ap t.list (items_same xs h)
    value_same (v.object ms) h = ap (λ (ps : Values). t.object (t.members_of ps)) (members_same ms h)

    items_same : (xs : Vals) → SoundValues xs → items_evaluated env xs ≡ items_evaluated other xs
    items_same v.no_vals h = refl
    items_same (v.val x xs) h =
        let first = value_same x h.0 in
        let rest = items_same xs h.1 in
        λ i. t.tree (first i) (rest i)

    members_same : (ms : Members) → SoundMembers ms → pairs_evaluated env ms ≡ pairs_evaluated other ms
    members_same v.no_members h = refl
    members_same (v.member n x ms) h =
        let first = value_same x h.1 in
        let rest = members_same ms h.2 in
        λ i. with_new_pair n (first i) (rest i)

  pub arguments_same : (xs : Arguments) → SoundArguments xs → arguments_in_environment env xs ≡ arguments_in_environment other xs
  arguments_same [] h = refl
  arguments_same (x ∷ xs) h =
      let first = value_same x.1 h.0.1 in
      let rest = arguments_same xs h.1 in
      λ i. with_new_pair x.0 (first i) (rest i)

  leaves_same : (d : Directive) → SoundDirective d → leaves_out env d ≡ leaves_out other d
  leaves_same d h =
      ap
      (λ (ys : Values). (bytes_eq d.name (codes "skip") && is_true (value_in ys (codes "if"))) || (bytes_eq d.name (codes "include") && not (is_true (value_in ys (codes "if")))))
      (arguments_same d.arguments h.1)

  pub left_same : (ds : List Directive) → SoundDirectives ds → is_left_out env ds ≡ is_left_out other ds
  left_same [] h = refl
  left_same (d ∷ ds) h =
      let first = leaves_same d h.0 in
      let rest = left_same ds h.1 in
      λ i. first i || rest i

-- ---- what a spread gives

module _ (own other env around : Values) (owns : Agree own other) (agree : Agree env around) where
  local_same : (given default : Option Val) → IfSome given SoundValue → IfSome default SoundValue → local_value own env given default ≡ local_value other around given default
  local_same (Some x) d h k = value_same env around agree x h
  local_same None (Some d) h k = value_same own other owns d k
  local_same None None h k = refl

  module _ (given : Arguments) (sound : SoundArguments given) where
    each_same : (l : Local) → SoundLocal l → local_value own env (value_of_name given l.name) l.default ≡ local_value other around (value_of_name given l.name) l.default
    each_same l h = local_same (value_of_name given l.name) l.default (value_found given l.name sound) h

    locals_agree : (ls : List Local) → AllByRecursion SoundLocal ls → Agree (with_locals own env given ls) (with_locals other around given ls)
    locals_agree [] h = owns
    locals_agree (l ∷ ls) h = λ n i.
        let first = each_same l h.0 in
        let rest = locals_agree ls h.1 n i in
        found-with_pair l.name (local_value own env (value_of_name given l.name) l.default) (with_locals own env given ls) n
        ∙ (λ j. cond (bytes_eq l.name n) (Some (first j)) (rest j))
        ∙ sym (found-with_pair l.name (local_value other around (value_of_name given l.name) l.default) (with_locals other around given ls) n)

-- inside the fragment of a spread the environments still agree
pub inside_agree : (own other env around : Values) → Agree own other → Agree env around → (ds : List Directive) → SoundDirectives ds → (f : FragmentAt) → AllByRecursion SoundLocal (locals_of f.directives)
    → Agree (environment_inside own env ds f) (environment_inside other around ds f)
inside_agree own other env around owns agree ds h f k = locals_agree own other env around owns agree (each arguments_in ds) (given_in ds h) (locals_of f.directives) k

scope_same_from : (env around : Values) → Agree env around → (given : Arguments) → SoundArguments given → (ls : List Local) → AllByRecursion SoundLocal ls
    → with_locals [] env given ls ≡ with_locals [] around given ls
scope_same_from env around agree given sound [] h = refl
scope_same_from env around agree given sound (l ∷ ls) h =
    let first = each_same [] [] env around (λ n i. refl) agree given sound l h.0 in
    let rest = scope_same_from env around agree given sound ls h.1 in
    λ j. with_pair l.name (first j) (rest j)

-- and the values of the local variables are the same
pub scope_same : (env around : Values) → Agree env around → (ds : List Directive) → SoundDirectives ds → (ls : List Local) → AllByRecursion SoundLocal ls
    → with_locals [] env (each arguments_in ds) ls ≡ with_locals [] around (each arguments_in ds) ls
scope_same env around agree ds h ls k = scope_same_from env around agree (each arguments_in ds) (given_in ds h) ls k
