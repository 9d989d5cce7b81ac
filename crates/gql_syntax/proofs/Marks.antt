-- How spelled trees behave under maps of what is kept of a token, before what follows, and one behind the other.
use Rattle.std.proofs.Common.{◌≡◌, ℕ, ◌+◌, Bool, List, [], ◌∷◌, ◌++◌, map, Option, Some, None, refl, ap, ◌∙◌}
use Rattle.gql_lex.specs.Toks as tok
use Rattle.gql_lex.specs.Toks.{Tok}
use Rattle.gql_ast.specs.Value.{Val, Vals, Members, variable, int, text, truth, null, enum, list, object, no_vals, val, no_members, member, members_of}
use Rattle.gql_ast.specs.ValueView.{value_of}
use Rattle.gql_ast.specs.Ty as ty
use Rattle.gql_ast.specs.Ty.{Ty}
use Rattle.gql_ast.specs.declared.directive.Directive.{Directive}
use Rattle.gql_ast.specs.declared.value.ValueTree.{ValueTree}
use Rattle.gql_syntax.proofs.Shapes.{ShapedValue, ShapedValues, ShapedMembers, ShapedArguments, ShapedDirective, ShapedDirectives}
use Rattle.gql_syntax.specs.Machine.{vals_then, members_then}
use Rattle.gql_syntax.specs.Spelling.{Mark, plain, spell_value, spell_values, spell_members, spell_arguments, spell_directives, spell_type, spell_default}

-- ---- a map of what is kept of each token

abbrev pub map_mark : {X Y : Type 0} → (X → Y) → Mark X → Mark Y
map_mark f mark t level nodes = f (mark t level nodes)

module _ {X Y : Type 0} (f : X → Y) (mark : Mark X) where
  mutual
    pub map-value : (v : Val) (around : ℕ) (ts : List X) → map f (spell_value mark v around ts) ≡ spell_value (map_mark f mark) v around (map f ts)
    map-value (variable n) around ts = refl
    map-value (int n) around ts = refl
    map-value (text t) around ts = refl
    map-value (truth b) around ts = refl
    map-value null around ts = refl
    map-value (enum n) around ts = refl
    map-value (list vs) around ts =
        ap (λ w. f (mark tok.open_bracket (around + 1) 1) ∷ w) (map-values vs (around + 1) (plain mark tok.close_bracket 0 ∷ ts))
    map-value (object ms) around ts =
        ap (λ w. f (mark tok.open_brace (around + 1) 1) ∷ w) (map-members ms (around + 1) (plain mark tok.close_brace 0 ∷ ts))

    pub map-values : (vs : Vals) (around : ℕ) (ts : List X) → map f (spell_values mark vs around ts) ≡ spell_values (map_mark f mark) vs around (map f ts)
    map-values no_vals around ts = refl
    map-values (val v vs) around ts =
        map-value v around (spell_values mark vs around ts) ∙ ap (λ w. spell_value (map_mark f mark) v around w) (map-values vs around ts)

    pub map-members : (ms : Members) (around : ℕ) (ts : List X) → map f (spell_members mark ms around ts) ≡ spell_members (map_mark f mark) ms around (map f ts)
    map-members no_members around ts = refl
    map-members (member n v ms) around ts =
        ap (λ w. f (mark (tok.name n) 0 2) ∷ f (mark tok.colon 0 0) ∷ w)
        (map-value v around (spell_members mark ms around ts) ∙ ap (λ w. spell_value (map_mark f mark) v around w) (map-members ms around ts))

  pub map-arguments : (xs : List (List ℕ × Val)) (ts : List X) → map f (spell_arguments mark xs ts) ≡ spell_arguments (map_mark f mark) xs (map f ts)
  map-arguments [] ts = refl
  map-arguments (x ∷ xs) ts = ap (λ w. f (mark tok.open_paren 0 0) ∷ w) (map-members (members_of (x ∷ xs)) 0 (plain mark tok.close_paren 0 ∷ ts))

  pub map-directives : (ds : List Directive) (ts : List X) → map f (spell_directives mark ds ts) ≡ spell_directives (map_mark f mark) ds (map f ts)
  map-directives [] ts = refl
  map-directives (d ∷ ds) ts =
      ap (λ w. f (mark tok.at_sign 0 1) ∷ f (mark (tok.name d.name) 0 1) ∷ w)
      (map-arguments d.arguments (spell_directives mark ds ts) ∙ ap (λ w. spell_arguments (map_mark f mark) d.arguments w) (map-directives ds ts))

  pub map-type : (t : Ty) (around above : ℕ) (ts : List X) → map f (spell_type mark t around above ts) ≡ spell_type (map_mark f mark) t around above (map f ts)
  map-type (ty.named n) around above ts = refl
  map-type (ty.list t) around above ts =
      ap (λ w. f (mark tok.open_bracket (around + 1) (above + 1)) ∷ w) (map-type t (around + 1) 0 (plain mark tok.close_bracket 0 ∷ ts))
  map-type (ty.non_null t) around above ts = map-type t around (above + 1) (plain mark tok.bang 0 ∷ ts)

  pub map-default : (v : Option ValueTree) (ts : List X) → map f (spell_default mark v ts) ≡ spell_default (map_mark f mark) v (map f ts)
  map-default None ts = refl
  map-default (Some v) ts = ap (λ w. f (mark tok.equals 0 0) ∷ w) (map-value (value_of v) 0 ts)

-- ---- what follows goes behind

module _ {X : Type 0} (mark : Mark X) where
  mutual
    pub value-append : (v : Val) (around : ℕ) (xs ts : List X) → spell_value mark v around (xs ++ ts) ≡ spell_value mark v around xs ++ ts
    value-append (variable n) around xs ts = refl
    value-append (int n) around xs ts = refl
    value-append (text t) around xs ts = refl
    value-append (truth b) around xs ts = refl
    value-append null around xs ts = refl
    value-append (enum n) around xs ts = refl
    value-append (list vs) around xs ts =
        ap (λ w. mark tok.open_bracket (around + 1) 1 ∷ w) (values-append vs (around + 1) (plain mark tok.close_bracket 0 ∷ xs) ts)
    value-append (object ms) around xs ts =
        ap (λ w. mark tok.open_brace (around + 1) 1 ∷ w) (members-append ms (around + 1) (plain mark tok.close_brace 0 ∷ xs) ts)

    pub values-append : (vs : Vals) (around : ℕ) (xs ts : List X) → spell_values mark vs around (xs ++ ts) ≡ spell_values mark vs around xs ++ ts
    values-append no_vals around xs ts = refl
    values-append (val v vs) around xs ts =
        ap (λ w. spell_value mark v around w) (values-append vs around xs ts) ∙ value-append v around (spell_values mark vs around xs) ts

    pub members-append : (ms : Members) (around : ℕ) (xs ts : List X) → spell_members mark ms around (xs ++ ts) ≡ spell_members mark ms around xs ++ ts
    members-append no_members around xs ts = refl
    members-append (member n v ms) around xs ts =
        ap (λ w. mark (tok.name n) 0 2 ∷ mark tok.colon 0 0 ∷ w)
        (ap (λ w. spell_value mark v around w) (members-append ms around xs ts) ∙ value-append v around (spell_members mark ms around xs) ts)

  pub arguments-append : (gs : List (List ℕ × Val)) (xs ts : List X) → spell_arguments mark gs (xs ++ ts) ≡ spell_arguments mark gs xs ++ ts
  arguments-append [] xs ts = refl
  arguments-append (g ∷ gs) xs ts = ap (λ w. mark tok.open_paren 0 0 ∷ w) (members-append (members_of (g ∷ gs)) 0 (plain mark tok.close_paren 0 ∷ xs) ts)

  pub directives-append : (ds : List Directive) (xs ts : List X) → spell_directives mark ds (xs ++ ts) ≡ spell_directives mark ds xs ++ ts
  directives-append [] xs ts = refl
  directives-append (d ∷ ds) xs ts =
      ap (λ w. mark tok.at_sign 0 1 ∷ mark (tok.name d.name) 0 1 ∷ w)
      (ap (λ w. spell_arguments mark d.arguments w) (directives-append ds xs ts) ∙ arguments-append d.arguments (spell_directives mark ds xs) ts)

  pub type-append : (t : Ty) (around above : ℕ) (xs ts : List X) → spell_type mark t around above (xs ++ ts) ≡ spell_type mark t around above xs ++ ts
  type-append (ty.named n) around above xs ts = refl
  type-append (ty.list t) around above xs ts =
      ap (λ w. mark tok.open_bracket (around + 1) (above + 1) ∷ w) (type-append t (around + 1) 0 (plain mark tok.close_bracket 0 ∷ xs) ts)
  type-append (ty.non_null t) around above xs ts = type-append t around (above + 1) (plain mark tok.bang 0 ∷ xs) ts

  -- ---- one more behind those that are there

  pub values-then : (vs : Vals) (v : Val) (around : ℕ) (ts : List X) → spell_values mark (vals_then vs v) around ts ≡ spell_values mark vs around (spell_value mark v around ts)
  values-then no_vals v around ts = refl
  values-then (val w vs) v around ts = ap (λ u. spell_value mark w around u) (values-then vs v around ts)

  pub members-then : (ms : Members) (n : List ℕ) (v : Val) (around : ℕ) (ts : List X)
      → spell_members mark (members_then ms n v) around ts
      ≡ spell_members mark ms around (plain mark (tok.name n) 2 ∷ plain mark tok.colon 0 ∷ spell_value mark v around ts)
  members-then no_members n v around ts = refl
  members-then (member m w ms) n v around ts =
      ap (λ u. plain mark (tok.name m) 2 ∷ plain mark tok.colon 0 ∷ spell_value mark w around u) (members-then ms n v around ts)

  pub directives-then : (ds : List Directive) (d : Directive) (ts : List X) → spell_directives mark (ds ++ d ∷ []) ts ≡ spell_directives mark ds (spell_directives mark (d ∷ []) ts)
  directives-then [] d ts = refl
  directives-then (e ∷ ds) d ts =
      ap (λ w. plain mark tok.at_sign 1 ∷ plain mark (tok.name e.name) 1 ∷ spell_arguments mark e.arguments w) (directives-then ds d ts)

  -- where the number of nodes is not kept, it does not count how many begin at the type's first token already
  pub above_any : ((t : Tok) (level n k : ℕ) → mark t level n ≡ mark t level k) → (t : Ty) (around n k : ℕ) (ts : List X)
      → spell_type mark t around n ts ≡ spell_type mark t around k ts
  above_any same (ty.named m) around n k ts = ap (λ x. x ∷ ts) (same (tok.name m) 0 (n + 2) (k + 2))
  above_any same (ty.list t) around n k ts =
      ap (λ x. x ∷ spell_type mark t (around + 1) 0 (plain mark tok.close_bracket 0 ∷ ts)) (same tok.open_bracket (around + 1) (n + 1) (k + 1))
  above_any same (ty.non_null t) around n k ts = above_any same t around (n + 1) (k + 1) (plain mark tok.bang 0 ∷ ts)

pub members_of-then : (xs : List (List ℕ × Val)) (n : List ℕ) (v : Val) → members_of (xs ++ (n, v) ∷ []) ≡ members_then (members_of xs) n v
members_of-then [] n v = refl
members_of-then (x ∷ xs) n v = ap (λ ms. member x.0 x.1 ms) (members_of-then xs n v)

-- ---- the same of what is formed

pub shaped_values-then : (c : Bool) (vs : Vals) (v : Val) → ShapedValues c vs → ShapedValue c v → ShapedValues c (vals_then vs v)
shaped_values-then c no_vals v f g = (g, tt)
shaped_values-then c (val w vs) v f g = (f.0, shaped_values-then c vs v f.1 g)

pub shaped_members-then : (c : Bool) (ms : Members) (n : List ℕ) (v : Val) → ShapedMembers c ms → ShapedValue c v → ShapedMembers c (members_then ms n v)
shaped_members-then c no_members n v f g = (g, tt)
shaped_members-then c (member m w ms) n v f g = (f.0, shaped_members-then c ms n v f.1 g)

pub shaped_arguments-then : (c : Bool) (xs : List (List ℕ × Val)) (n : List ℕ) (v : Val) → ShapedArguments c xs → ShapedValue c v → ShapedArguments c (xs ++ (n, v) ∷ [])
shaped_arguments-then c [] n v f g = (g, tt)
shaped_arguments-then c (x ∷ xs) n v f g = (f.0, shaped_arguments-then c xs n v f.1 g)

pub shaped_directives-then : (c : Bool) (ds : List Directive) (d : Directive) → ShapedDirectives c ds → ShapedDirective c d → ShapedDirectives c (ds ++ d ∷ [])
shaped_directives-then c [] d f g = (g, tt)
shaped_directives-then c (e ∷ ds) d f g = (f.0, shaped_directives-then c ds d f.1 g)
