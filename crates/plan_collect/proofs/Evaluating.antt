-- A value whose local variables gave way, printed with its fields in order, evaluates to what the value as it is written does.
use Rattle.std.proofs.Common.{◌≡◌, Bool, true, false, cond, List, [], ◌∷◌, map, Option, Some, None, option_map, Ordering, Less, Equal, Greater, nat_cmp, is_eq, bytes_eq, refl, sym, ap, ◌∙◌}
use Rattle.std.proofs.lemmas.Cmp.{tied_itself}
use Rattle.std.proofs.lemmas.List.Sorted.{ranks_by}
use Rattle.std.proofs.lemmas.Map.Text.{is_eq-slice_cmp}
use Rattle.std.proofs.lemmas.Slice.Eq.{bytes_eq-Decides}
use Rattle.std.specs.Cmp.{IsStrictWeakOrder}
use Rattle.std.specs.Cmp.Lexicographic.{slice_cmp, nat_list_cmp_total}
use Rattle.std.specs.Ordering.{is_lt, match_ordering, ordering_reverse}
use Rattle.plan_ir.specs.gql_ast.Value.{Val, Vals, Members, variable, int, text, truth, null, enum, list, object, no_vals, val, no_members, member, members_of}
use Rattle.plan_ir.specs.gql_plain.Order.{member_at}
use Rattle.plan_ir.specs.gql_plain.Tree as t
use Rattle.plan_ir.specs.gql_plain.Tree.{Tree}
use Rattle.plan_ir.specs.relay_marks.Connections.{value_of_name}
use Rattle.plan_ir.specs.relay_marks.Locals.{Local, locals_of}
use Rattle.plan_ir.specs.OperationText.{by_name, with_member}
use Rattle.plan_ir.specs.Substitution.{Arguments, Scope, arguments_in, default_named, scope_at_spread, substitute, substitute_in, substitute_items, substitute_members, value_of_local, value_or}
use Rattle.plan_collect.specs.Collecting.{environment_inside, local_value, with_locals}
use Rattle.plan_collect.specs.Printed.{printed_arguments, printed_members, printed_pair, printed_value, printed_values}
use Rattle.plan_ir.specs.gql_ast.declared.directive.Directive.{Directive}
use Rattle.plan_ir.specs.gql_graph.Rules.{each}
use Rattle.plan_ir.specs.schema_tables.Types.{Text}
use Rattle.plan_ir.specs.schema_types.Environments.{Values, arguments_in_environment, evaluation, items_evaluated, or_null, pairs_evaluated, value_in, with_new_pair, with_pair}
use Rattle.plan_ir.specs.schema_types.Sites.{FragmentAt}

-- ---- names in order

abbrev order : Text → Text → Ordering
order = slice_cmp nat_cmp

same_text : (a b : Text) → order a b ≡ Equal → a ≡ b
same_text a b e = (bytes_eq-Decides a b).0 (sym (is_eq-slice_cmp a b) ∙ ap is_eq e)

turned : (a b : Text) (o : Ordering) → order a b ≡ o → order b a ≡ ordering_reverse o
turned a b o e = nat_list_cmp_total.antisymm b a ∙ ap ordering_reverse e

weak : IsStrictWeakOrder (λ (x y : Text). is_lt (order x y))
weak = ranks_by nat_list_cmp_total (λ (x : Text). x)

-- a name that is not below another one is not below what is below that
not_between : (a b e : Text) → order a b ≡ Less → is_lt (order a e) ≡ false → is_lt (order e b) ≡ false → ⊥
not_between a b e less above below =
    let far : is_lt (order a b) ≡ false = weak.chain a e b above below in
    let near : is_lt (order a b) ≡ true = ap is_lt less in
    cc

-- ---- pairs that are put at their places

new_less : (n : Text) (x : Tree) (p : Text × Tree) (ps : Values) → order n p.0 ≡ Less → with_new_pair n x (p ∷ ps) ≡ (n, x) ∷ p ∷ ps
new_less n x p ps e = ap (λ o. match_ordering o ((n, x) ∷ p ∷ ps) (p ∷ ps) (p ∷ with_new_pair n x ps)) e

new_equal : (n : Text) (x : Tree) (p : Text × Tree) (ps : Values) → order n p.0 ≡ Equal → with_new_pair n x (p ∷ ps) ≡ p ∷ ps
new_equal n x p ps e = ap (λ o. match_ordering o ((n, x) ∷ p ∷ ps) (p ∷ ps) (p ∷ with_new_pair n x ps)) e

new_greater : (n : Text) (x : Tree) (p : Text × Tree) (ps : Values) → order n p.0 ≡ Greater → with_new_pair n x (p ∷ ps) ≡ p ∷ with_new_pair n x ps
new_greater n x p ps e = ap (λ o. match_ordering o ((n, x) ∷ p ∷ ps) (p ∷ ps) (p ∷ with_new_pair n x ps)) e

-- two pairs of different names may be put in either order
new_pairs-swap : (a b : Text) (v w : Tree) → order b a ≡ Greater → (es : Values) → with_new_pair a v (with_new_pair b w es) ≡ with_new_pair b w (with_new_pair a v es)
new_pairs-swap a b v w greater [] =
    new_less a v (b, w) [] (turned b a Greater greater) ∙ sym (new_greater b w (a, v) [] greater)
new_pairs-swap a b v w greater (e ∷ es) = at (new_pairs-swap a b v w greater es) (order a e.0) refl (order b e.0) refl
  where
    less : order a b ≡ Less
    less = turned b a Greater greater

    at : with_new_pair a v (with_new_pair b w es) ≡ with_new_pair b w (with_new_pair a v es)
        → (o : Ordering) → order a e.0 ≡ o → (q : Ordering) → order b e.0 ≡ q
        → with_new_pair a v (with_new_pair b w (e ∷ es)) ≡ with_new_pair b w (with_new_pair a v (e ∷ es))
    at rest Less f Less g =
        ap (with_new_pair a v) (new_less b w e es g) ∙ new_less a v (b, w) (e ∷ es) less
        ∙ sym (ap (with_new_pair b w) (new_less a v e es f) ∙ new_greater b w (a, v) (e ∷ es) greater ∙ ap (λ r. (a, v) ∷ r) (new_less b w e es g))
    at rest Less f Equal g =
        ap (with_new_pair a v) (new_equal b w e es g) ∙ new_less a v e es f
        ∙ sym (ap (with_new_pair b w) (new_less a v e es f) ∙ new_greater b w (a, v) (e ∷ es) greater ∙ ap (λ r. (a, v) ∷ r) (new_equal b w e es g))
    at rest Less f Greater g =
        ap (with_new_pair a v) (new_greater b w e es g) ∙ new_less a v e (with_new_pair b w es) f
        ∙ sym (ap (with_new_pair b w) (new_less a v e es f) ∙ new_greater b w (a, v) (e ∷ es) greater ∙ ap (λ r. (a, v) ∷ r) (new_greater b w e es g))
    at rest Equal f Greater g =
        ap (with_new_pair a v) (new_greater b w e es g) ∙ new_equal a v e (with_new_pair b w es) f
        ∙ sym (ap (with_new_pair b w) (new_equal a v e es f) ∙ new_greater b w e es g)
    at rest Greater f Greater g =
        ap (with_new_pair a v) (new_greater b w e es g) ∙ new_greater a v e (with_new_pair b w es) f ∙ ap (λ r. e ∷ r) rest
        ∙ sym (ap (with_new_pair b w) (new_greater a v e es f) ∙ new_greater b w e (with_new_pair a v es) g)
    at rest Equal f Less g = absurd (not_between a b e.0 less (ap is_lt f) (ap is_lt (turned b e.0 Less g)))
    at rest Equal f Equal g = absurd (not_between a b e.0 less (ap is_lt f) (ap is_lt (turned b e.0 Equal g)))
    at rest Greater f Less g = absurd (not_between a b e.0 less (ap is_lt f) (ap is_lt (turned b e.0 Less g)))
    at rest Greater f Equal g = absurd (not_between a b e.0 less (ap is_lt f) (ap is_lt (turned b e.0 Equal g)))

-- names and values in byte order evaluate to the same pairs
pairs-with_member : (env : Values) (x : Text × Val) (ps : Arguments)
    → pairs_evaluated env (members_of (with_member x ps)) ≡ with_new_pair x.0 (evaluation env x.1) (pairs_evaluated env (members_of ps))
pairs-with_member env x [] = refl
pairs-with_member env x (p ∷ ps) = at (pairs-with_member env x ps) (order x.0 p.0) refl
  where
    at : pairs_evaluated env (members_of (with_member x ps)) ≡ with_new_pair x.0 (evaluation env x.1) (pairs_evaluated env (members_of ps))
        → (o : Ordering) → order x.0 p.0 ≡ o
        → pairs_evaluated env (members_of (match_ordering o (x ∷ p ∷ ps) (x ∷ p ∷ ps) (p ∷ with_member x ps)))
        ≡ with_new_pair x.0 (evaluation env x.1) (with_new_pair p.0 (evaluation env p.1) (pairs_evaluated env (members_of ps)))
    at rest Less e = refl
    at rest Equal e = refl
    at rest Greater e =
        ap (with_new_pair p.0 (evaluation env p.1)) rest
        ∙ new_pairs-swap p.0 x.0 (evaluation env p.1) (evaluation env x.1) e (pairs_evaluated env (members_of ps))

pairs-by_name : (env : Values) (xs : Arguments) → pairs_evaluated env (members_of (by_name xs)) ≡ pairs_evaluated env (members_of xs)
pairs-by_name env [] = refl
pairs-by_name env (x ∷ xs) = pairs-with_member env x (by_name xs) ∙ ap (with_new_pair x.0 (evaluation env x.1)) (pairs-by_name env xs)

-- ---- printed values

mutual
  value-printed : (env : Values) (v : Val) → evaluation env (printed_value v) ≡ evaluation env v
  value-printed env (variable n) = refl
  value-printed env (int z) = refl
  value-printed env (text s) = refl
  value-printed env (truth b) = refl
  value-printed env null = refl
  value-printed env (enum n) = refl
  value-printed env (list vs) = ap t.list (items-printed env vs)
  value-printed env (object ms) = ap (λ (ps : Values). t.object (t.members_of ps)) (pairs-by_name env (printed_members ms) ∙ members-printed env ms)

  items-printed : (env : Values) (vs : Vals) → items_evaluated env (printed_values vs) ≡ items_evaluated env vs
  items-printed env no_vals = refl
  items-printed env (val v vs) = λ i. t.tree (value-printed env v i) (items-printed env vs i)

  members-printed : (env : Values) (ms : Members) → pairs_evaluated env (members_of (printed_members ms)) ≡ pairs_evaluated env ms
  members-printed env no_members = refl
  members-printed env (member n v ms) = λ i. with_new_pair n (value-printed env v i) (members-printed env ms i)

-- ---- scopes and environments

-- a scope says under the operation's environment what this environment says
abbrev pub Means : (own : Values) → Scope → (env : Values) → Type 0
Means own scope env = (n : Text) → evaluation own (scope n) ≡ value_in env n

module _ (own env : Values) (scope : Scope) (means : Means own scope env) where
  mutual
    pub value-substituted : (v : Val) → evaluation own (substitute scope v) ≡ evaluation env v
    value-substituted (variable n) = means n
    value-substituted (int z) = refl
    value-substituted (text s) = refl
    value-substituted (truth b) = refl
    value-substituted null = refl
    value-substituted (enum n) = refl
    value-substituted (list vs) = ap t.list (items-substituted vs)
    value-substituted (object ms) = ap (λ (ps : Values). t.object (t.members_of ps)) (members-substituted ms)

    items-substituted : (vs : Vals) → items_evaluated own (substitute_items scope vs) ≡ items_evaluated env vs
    items-substituted no_vals = refl
    items-substituted (val v vs) = λ i. t.tree (value-substituted v i) (items-substituted vs i)

    members-substituted : (ms : Members) → pairs_evaluated own (substitute_members scope ms) ≡ pairs_evaluated env ms
    members-substituted no_members = refl
    members-substituted (member n v ms) = λ i. with_new_pair n (value-substituted v i) (members-substituted ms i)

  given-printed : (xs : Arguments) → pairs_evaluated own (members_of (map printed_pair (substitute_in scope xs))) ≡ pairs_evaluated env (members_of xs)
  given-printed [] = refl
  given-printed (x ∷ xs) = λ i. with_new_pair x.0 ((value-printed own (substitute scope x.1) ∙ value-substituted x.1) i) (given-printed xs i)

  -- arguments of the text have the values of those that are written
  pub arguments-printed : (xs : Arguments) → arguments_in_environment own (printed_arguments (substitute_in scope xs)) ≡ arguments_in_environment env xs
  arguments-printed xs = pairs-by_name own (map printed_pair (substitute_in scope xs)) ∙ given-printed xs

  pub value_of_name-substituted : (xs : Arguments) (n : Text) → value_of_name (substitute_in scope xs) n ≡ option_map (substitute scope) (value_of_name xs n)
  value_of_name-substituted [] n = refl
  value_of_name-substituted (x ∷ xs) n = at (value_of_name-substituted xs n) (bytes_eq x.0 n)
    where
      at : value_of_name (substitute_in scope xs) n ≡ option_map (substitute scope) (value_of_name xs n) → (b : Bool)
          → cond b (Some (substitute scope x.1)) (value_of_name (substitute_in scope xs) n) ≡ option_map (substitute scope) (cond b (Some x.1) (value_of_name xs n))
      at rest true = refl
      at rest false = rest

  value_or-given : (given default : Option Val) → evaluation own (value_or (option_map (substitute scope) given) default) ≡ local_value own env given default
  value_or-given (Some v) d = value-substituted v
  value_or-given None (Some d) = refl
  value_or-given None None = refl

-- ---- a pair that is put is found

pub found-with_pair : (n : Text) (x : Tree) (ps : Values) (m : Text) → member_at (with_pair n x ps) m ≡ cond (bytes_eq n m) (Some x) (member_at ps m)
found-with_pair n x [] m = refl
found-with_pair n x (p ∷ ps) m = at (found-with_pair n x ps m) (order n p.0) refl
  where
    behind_equal : (b : Bool) → bytes_eq p.0 m ≡ b → (e : n ≡ p.0)
        → cond (bytes_eq n m) (Some x) (member_at ps m) ≡ cond (bytes_eq n m) (Some x) (cond b (Some p.1) (member_at ps m))
    behind_equal false f e = refl
    behind_equal true f e = let here : bytes_eq n m ≡ true = ap (λ k. bytes_eq k m) e ∙ f in rw here refl

    apart : (b c : Bool) → bytes_eq p.0 m ≡ b → bytes_eq n m ≡ c → order n p.0 ≡ Greater
        → cond b (Some p.1) (cond c (Some x) (member_at ps m)) ≡ cond c (Some x) (cond b (Some p.1) (member_at ps m))
    apart false c f g e = refl
    apart true false f g e = refl
    apart true true f g e =
        let first : p.0 ≡ m = (bytes_eq-Decides p.0 m).0 f in
        let second : n ≡ m = (bytes_eq-Decides n m).0 g in
        let tied : order n p.0 ≡ Equal = ap (λ k. order k p.0) (second ∙ sym first) ∙ tied_itself nat_list_cmp_total p.0 in
        cc

    at : member_at (with_pair n x ps) m ≡ cond (bytes_eq n m) (Some x) (member_at ps m) → (o : Ordering) → order n p.0 ≡ o
        → member_at (match_ordering o ((n, x) ∷ p ∷ ps) ((n, x) ∷ ps) (p ∷ with_pair n x ps)) m
        ≡ cond (bytes_eq n m) (Some x) (cond (bytes_eq p.0 m) (Some p.1) (member_at ps m))
    at rest Less e = refl
    at rest Equal e = behind_equal (bytes_eq p.0 m) refl (same_text n p.0 e)
    at rest Greater e = ap (λ o. cond (bytes_eq p.0 m) (Some p.1) o) rest ∙ apart (bytes_eq p.0 m) (bytes_eq n m) refl refl e

-- ---- inside a fragment

module _ (own around : Values) (scope : Scope) (means : Means own scope around) (given : Arguments) where
  locals_mean : (ls : List Local) (n : Text) → evaluation own (value_of_local (substitute_in scope given) n (default_named ls n)) ≡ value_in (with_locals own around given ls) n
  locals_mean [] n = refl
  locals_mean (l ∷ ls) n =
      at (locals_mean ls n) (bytes_eq l.name n) refl
      ∙ sym (ap or_null (found-with_pair l.name (local_value own around (value_of_name given l.name) l.default) (with_locals own around given ls) n))
    where
      at : evaluation own (value_of_local (substitute_in scope given) n (default_named ls n)) ≡ value_in (with_locals own around given ls) n
          → (b : Bool) → bytes_eq l.name n ≡ b
          → evaluation own (value_of_local (substitute_in scope given) n (cond b (Some l.default) (default_named ls n)))
          ≡ or_null (cond b (Some (local_value own around (value_of_name given l.name) l.default)) (member_at (with_locals own around given ls) n))
      at rest true e =
          ap (λ (v : Option Val). evaluation own (value_or v l.default)) (value_of_name-substituted own around scope means given n)
          ∙ value_or-given own around scope means (value_of_name given n) l.default
          ∙ ap (λ k. local_value own around (value_of_name given k) l.default) (sym ((bytes_eq-Decides l.name n).0 e))
      at rest false e = rest

-- the scope of a fragment that is spread says what the environment inside it says
pub means_inside : (own around : Values) (scope : Scope) → Means own scope around → (ds : List Directive) (f : FragmentAt)
    → Means own (scope_at_spread scope ds f) (environment_inside own around ds f)
means_inside own around scope means ds f n = locals_mean own around scope means (each arguments_in ds) (locals_of f.directives) n
