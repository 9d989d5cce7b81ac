-- The conditions of directives pass where these leave nothing out.
use Rattle.std.proofs.Common.{◌≡◌, Bool, true, false, cond, not, ◌&&◌, ◌||◌, List, [], ◌∷◌, ◌++◌, Option, Some, None, nat_cmp, is_eq, bytes_eq, refl, ap, sym, ◌∙◌}
use Rattle.std.proofs.lemmas.Map.Text.{is_eq-slice_cmp}
use Rattle.std.specs.Cmp.Lexicographic.{slice_cmp, nat_list_cmp_total}
use Rattle.std.specs.List.{AllByRecursion, list_all}
use Rattle.std.specs.Ordering.{match_ordering, ordering_reverse}
use Rattle.std.specs.Prelude.{codes}
use Rattle.std.specs.declared.cmp.Ordering.{Ordering}
use Rattle.std.specs.declared.cmp.Ordering.TheVariants.{Less, Equal, Greater}
use Rattle.plan_ir.specs.gql_ast.Value as v
use Rattle.plan_ir.specs.gql_ast.Value.{Val, members_of}
use Rattle.plan_ir.specs.gql_ast.ValueView.{value_of}
use Rattle.plan_ir.specs.gql_ast.declared.directive.Directive.{Directive}
use Rattle.plan_ir.proofs.gql_graph_laws.TextSteps.{same_text}
use Rattle.plan_ir.specs.gql_plain.Order.{member_at}
use Rattle.plan_ir.specs.gql_plain.Tree as t
use Rattle.plan_ir.specs.gql_plain.Tree.{Tree}
use Rattle.plan_ir.specs.NormalMeaning.{condition_passes}
use Rattle.plan_ir.specs.declared.guard.Condition.{Condition}
use Rattle.relay_model.specs.plan_collect.Collecting.{condition_holds, is_left_out, leaves_out}
use Rattle.plan_ir.specs.schema_tables.Types.{Text}
use Rattle.plan_ir.specs.schema_types.Environments.{Values, arguments_in_environment, evaluation, is_true, or_null, pairs_evaluated, value_in, with_new_pair}
use Rattle.plan_build.proofs.ConditionTrees.{value_of_tree}
use Rattle.plan_build.specs.Conditions.{condition, condition_of, conditions_of, last_if, tree_of}

-- ---- pairs in byte order: of several of one key the last counts

abbrev order : Text → Text → Ordering
order = slice_cmp nat_cmp

abbrev Above : Text → Values → Type 0
Above n ps = AllByRecursion (λ (p : Text × Tree). order n p.0 ≡ Less) ps

abbrev InOrder : Values → Type 0
InOrder [] = Unit {0}
InOrder (p ∷ ps) = Above p.0 ps × InOrder ps

above_new : (low n : Text) (x : Tree) (ps : Values) → order low n ≡ Less → Above low ps → Above low (with_new_pair n x ps)
above_new low n x [] less all = (less, tt)
above_new low n x (p ∷ ps) less all = at (above_new low n x ps less all.1) (order n p.0) where
  at : Above low (with_new_pair n x ps) → (o : Ordering) → Above low (match_ordering o ((n, x) ∷ p ∷ ps) (p ∷ ps) (p ∷ with_new_pair n x ps))
  at more Less = (less, all)
  at more Equal = all
  at more Greater = (all.0, more)

above_too : (low n : Text) (ps : Values) → order low n ≡ Less → Above n ps → Above low ps
above_too low n [] less all = tt
above_too low n (p ∷ ps) less all = (nat_list_cmp_total.trans low n p.0 less all.0, above_too low n ps less all.1)

in_order_new : (n : Text) (x : Tree) (ps : Values) → InOrder ps → InOrder (with_new_pair n x ps)
in_order_new n x [] h = (tt, tt)
in_order_new n x (p ∷ ps) h = at (in_order_new n x ps h.1) (order n p.0) refl where
  at : InOrder (with_new_pair n x ps) → (o : Ordering) → order n p.0 ≡ o → InOrder (match_ordering o ((n, x) ∷ p ∷ ps) (p ∷ ps) (p ∷ with_new_pair n x ps))
  at more Less e = ((e, above_too n p.0 ps e h.0), h)
  at more Equal e = h
  at more Greater e =
      let below : order p.0 n ≡ Less = nat_list_cmp_total.antisymm p.0 n ∙ ap ordering_reverse e in
      (above_new p.0 n x ps below h.0, more)

in_order : (env : Values) (ms : v.Members) → InOrder (pairs_evaluated env ms)
in_order env v.no_members = tt
in_order env (v.member n x ms) = in_order_new n (evaluation env x) (pairs_evaluated env ms) (in_order env ms)

apart : (a b : Text) → order a b ≡ Less → bytes_eq b a ≡ false
apart a b less = sym (is_eq-slice_cmp b a) ∙ ap is_eq (nat_list_cmp_total.antisymm b a ∙ ap ordering_reverse less)

none_above : (n : Text) (ps : Values) → Above n ps → member_at ps n ≡ None
none_above n [] h = refl
none_above n (p ∷ ps) h = ap (λ (b : Bool). cond b (Some p.1) (member_at ps n)) (apart n p.0 h.0) ∙ none_above n ps h.1

abbrev or_new : Option Tree → (is_it : Bool) → Tree → Option Tree
or_new (Some y) b x = Some y
or_new None b x = cond b (Some x) None

or_new_other : (o : Option Tree) (x : Tree) → o ≡ or_new o false x
or_new_other None x = refl
or_new_other (Some y) x = refl

member_new : (k n : Text) (x : Tree) (ps : Values) → InOrder ps → member_at (with_new_pair n x ps) k ≡ or_new (member_at ps k) (bytes_eq n k) x
member_new k n x [] h = refl
member_new k n x (p ∷ ps) h = at (member_new k n x ps h.1) (order n p.0) refl where
  here : (b : Bool) → bytes_eq n k ≡ b → Above n (p ∷ ps) → cond b (Some x) (member_at (p ∷ ps) k) ≡ or_new (member_at (p ∷ ps) k) b x
  here true e above = sym (ap (λ (o : Option Tree). or_new o true x) (ap (member_at (p ∷ ps)) (sym (same_text n k e)) ∙ none_above n (p ∷ ps) above))
  here false e above = or_new_other (member_at (p ∷ ps) k) x

  same : (b : Bool) → bytes_eq p.0 k ≡ b → cond b (Some p.1) (member_at ps k) ≡ or_new (cond b (Some p.1) (member_at ps k)) b x
  same true e = refl
  same false e = or_new_other (member_at ps k) x

  later : member_at (with_new_pair n x ps) k ≡ or_new (member_at ps k) (bytes_eq n k) x → (b : Bool)
      → cond b (Some p.1) (member_at (with_new_pair n x ps) k) ≡ or_new (cond b (Some p.1) (member_at ps k)) (bytes_eq n k) x
  later more true = refl
  later more false = more

  at : member_at (with_new_pair n x ps) k ≡ or_new (member_at ps k) (bytes_eq n k) x → (o : Ordering) → order n p.0 ≡ o
      → member_at (match_ordering o ((n, x) ∷ p ∷ ps) (p ∷ ps) (p ∷ with_new_pair n x ps)) k ≡ or_new (member_at (p ∷ ps) k) (bytes_eq n k) x
  at more Less e = here (bytes_eq n k) refl (e, above_too n p.0 ps e h.0)
  at more Equal e =
      let is : n ≡ p.0 = same_text n p.0 (sym (is_eq-slice_cmp n p.0) ∙ ap is_eq e) in
      same (bytes_eq p.0 k) refl ∙ ap (λ (m : Text). or_new (member_at (p ∷ ps) k) (bytes_eq m k) x) (sym is)
  at more Greater e = later more (bytes_eq p.0 k)

-- ---- the value of the last argument `if`

abbrev or_else : Option Tree → Tree → Tree
or_else (Some y) x = y
or_else None x = x

last_found : (env : Values) (xs : List (Text × Val)) (x : Val) → evaluation env (last_if x xs) ≡ or_else (member_at (arguments_in_environment env xs) (codes "if")) (evaluation env x)
last_found env [] x = refl
last_found env (a ∷ xs) x =
    last_found env xs (cond (bytes_eq a.0 (codes "if")) a.1 x)
    ∙ on (member_at (arguments_in_environment env xs) (codes "if")) (bytes_eq a.0 (codes "if"))
    ∙ sym (ap (λ (o : Option Tree). or_else o (evaluation env x)) (member_new (codes "if") a.0 (evaluation env a.1) (arguments_in_environment env xs) (in_order env (members_of xs))))
  where
    on : (o : Option Tree) (b : Bool) → or_else o (evaluation env (cond b a.1 x)) ≡ or_else (or_new o b (evaluation env a.1)) (evaluation env x)
    on (Some y) b = refl
    on None true = refl
    on None false = refl

null_else : (o : Option Tree) → or_else o t.null ≡ or_null o
null_else None = refl
null_else (Some y) = refl

if_value : (env : Values) (d : Directive) → evaluation env (value_of (tree_of (last_if v.null d.arguments))) ≡ value_in (arguments_in_environment env d.arguments) (codes "if")
if_value env d = ap (evaluation env) (value_of_tree (last_if v.null d.arguments)) ∙ last_found env d.arguments v.null ∙ null_else (member_at (arguments_in_environment env d.arguments) (codes "if"))

-- ---- conditions

all_append : (env : Values) (xs ys : List Condition) → list_all (condition_passes env) (xs ++ ys) ≡ (list_all (condition_passes env) xs && list_all (condition_passes env) ys)
all_append env [] ys = refl
all_append env (x ∷ xs) ys = ap (λ (b : Bool). condition_passes env x && b) (all_append env xs ys) ∙ on (condition_passes env x) where
  on : (b : Bool) → (b && (list_all (condition_passes env) xs && list_all (condition_passes env) ys)) ≡ ((b && list_all (condition_passes env) xs) && list_all (condition_passes env) ys)
  on true = refl
  on false = refl

not_skip : (n : Text) → bytes_eq n (codes "skip") ≡ true → bytes_eq n (codes "include") ≡ false
not_skip n e = ap (λ (m : Text). bytes_eq m (codes "include")) (same_text n (codes "skip") e)

one_passes : (env : Values) (d : Directive) → list_all (condition_passes env) (condition_of d) ≡ not (leaves_out env d)
one_passes env d = on (bytes_eq d.name (codes "skip")) (bytes_eq d.name (codes "include")) (not_skip d.name) where
  holds : is_true (evaluation env (value_of (tree_of (last_if v.null d.arguments)))) ≡ condition_holds env d
  holds = ap is_true (if_value env d)

  skipped : (h : Bool) → (not h && true) ≡ not ((true && h) || (false && not h))
  skipped true = refl
  skipped false = refl

  included : (h : Bool) → (h && true) ≡ not ((false && h) || (true && not h))
  included true = refl
  included false = refl

  on : (s i : Bool) → (s ≡ true → i ≡ false) → list_all (condition_passes env) (cond s (condition true d ∷ []) (cond i (condition false d ∷ []) []))
      ≡ not ((s && condition_holds env d) || (i && not (condition_holds env d)))
  on true i other = (λ k. not (holds k) && true) ∙ skipped (condition_holds env d) ∙ sym (ap (λ (j : Bool). not ((true && condition_holds env d) || (j && not (condition_holds env d)))) (other refl))
  on false true other = (λ k. holds k && true) ∙ included (condition_holds env d)
  on false false other = refl

pub conditions_pass : (env : Values) (ds : List Directive) → list_all (condition_passes env) (conditions_of ds) ≡ not (is_left_out env ds)
conditions_pass env [] = refl
conditions_pass env (d ∷ ds) =
    all_append env (condition_of d) (conditions_of ds) ∙ (λ i. one_passes env d i && conditions_pass env ds i) ∙ on (leaves_out env d) (is_left_out env ds)
  where
    on : (a b : Bool) → (not a && not b) ≡ not (a || b)
    on true b = refl
    on false b = refl
