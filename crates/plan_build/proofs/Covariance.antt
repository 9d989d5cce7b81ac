-- Fields are covariant: on each object type that a type may be, a field is of the same type as on that one, or of a narrower one.
use Rattle.std.proofs.Common.{◌≡◌, true, false, true≢false, cond, not, ◌&&◌, ◌||◌, List, [], ◌∷◌, codes, Option, Some, None, option_map, is_some, bytes_eq, refl, ap, sym, subst, ◌∙◌}
use Rattle.std.specs.List.{filter, filter_map}
use Rattle.std.specs.Option.{option_and_then}
use Rattle.plan_ir.specs.gql_ast.Ty.{Ty}
use Rattle.plan_ir.specs.gql_ast.TypeView.{ty_of}
use Rattle.plan_ir.specs.gql_ast.declared.member.FieldTree.{FieldTree}
use Rattle.plan_ir.specs.gql_ast.declared.schema.SchemaDef.{SchemaDef}
use Rattle.plan_ir.specs.gql_ast.declared.schema.SchemaDef.TheVariants as S
use Rattle.plan_ir.proofs.gql_graph_laws.TextSteps.{same_text, same_self, either_of}
use Rattle.plan_ir.proofs.gql_plain_laws.Booleans.{or_true}
use Rattle.plan_ir.proofs.gql_plain_laws.SortedTexts.{has_text-sorted_texts}
use Rattle.plan_ir.specs.gql_plain.Order.{has_text}
use Rattle.plan_build.proofs.CovarianceLists.{first_true, in_filter, left_by, sorted_alone, then_true}
use Rattle.plan_build.proofs.CovarianceNames.{no_union, not_both, object_there}
use Rattle.plan_build.proofs.CovarianceRules.{Narrower, SchemaMeets, implemented, narrower_base, narrower_field, narrower_itself}
use Rattle.plan_build.specs.Meeting.{base_on}
use Rattle.plan_ir.specs.Additions.{type_on, type_or}
use Rattle.plan_ir.proofs.schema_rules_laws.InheritedSteps.{none_such, stands_in}
use Rattle.plan_ir.specs.schema_rules.Rules.{is_interface, is_narrower_name, is_object}
use Rattle.plan_ir.specs.schema_tables.Types.{Text, Defs, applies, field_named, field_on, fields_of, implements, interfaces_named, is_composite, is_interface_kind, is_object_kind, kind_of, object_name, possible, type_named, union_members_named, base_of}
use Rattle.plan_ir.specs.schema_types.Sites.{field_type, typename_on}

-- each object type that the first may be is one that the second may be
abbrev pub Within : Defs → (narrow wide : Text) → Type 0
Within defs t u = (T : Text) → has_text (possible defs t) T ≡ true → has_text (possible defs u) T ≡ true

abbrev objects : Defs → List Text
objects defs = filter_map object_name defs

pub possible_is : (defs : Defs) (t T : Text) → has_text (possible defs t) T ≡ true → (has_text (objects defs) T ≡ true) × (applies defs T t ≡ true)
possible_is defs t T h =
    in_filter (λ o. applies defs o t) (objects defs) T (sym (has_text-sorted_texts (filter (λ o. applies defs o t) (objects defs)) T) ∙ h)

possible_from : (defs : Defs) (t T : Text) → has_text (objects defs) T ≡ true → applies defs T t ≡ true → has_text (possible defs t) T ≡ true
possible_from defs t T h e = has_text-sorted_texts (filter (λ o. applies defs o t) (objects defs)) T ∙ left_by (λ o. applies defs o t) (objects defs) T h e

-- how an object type applies
by_applying : {P : Type 0} (defs : Defs) (T t : Text) → applies defs T t ≡ true → (T ≡ t → P) → (implements defs T t ≡ true → P) → (has_text (union_members_named (type_named defs t)) T ≡ true → P) → P
by_applying defs T t e f g h = either_of (bytes_eq T t || implements defs T t) (has_text (union_members_named (type_named defs t)) T) e
    (λ k. either_of (bytes_eq T t) (implements defs T t) k (λ i. f (same_text T t i)) g)
    h

-- how a name is narrower
by_narrowing : {P : Type 0} (defs : Defs) (a b : Text) → is_narrower_name defs a b ≡ true → (a ≡ b → P) → (is_object defs a ≡ true → applies defs a b ≡ true → P)
    → (is_interface defs a ≡ true → implements defs a b ≡ true → P) → P
by_narrowing defs a b e f g h = either_of (bytes_eq a b || (is_object defs a && applies defs a b)) (is_interface defs a && implements defs a b) e
    (λ k. either_of (bytes_eq a b) (is_object defs a && applies defs a b) k (λ i. f (same_text a b i)) (λ i. g (first_true (is_object defs a) (applies defs a b) i) (then_true (is_object defs a) (applies defs a b) i)))
    (λ k. h (first_true (is_interface defs a) (implements defs a b) k) (then_true (is_interface defs a) (implements defs a b) k))

implements_applies : (defs : Defs) (T t : Text) → implements defs T t ≡ true → applies defs T t ≡ true
implements_applies defs T t e =
    ap (λ b. (bytes_eq T t || b) || has_text (union_members_named (type_named defs t)) T) e
    ∙ ap (λ b. b || has_text (union_members_named (type_named defs t)) T) (or_true (bytes_eq T t))

-- a union has no fields
union_has_none : (defs : Defs) (t T n : Text) → has_text (union_members_named (type_named defs t)) T ≡ true → field_on defs t n ≡ None
union_has_none defs t T n h = on (type_named defs t) h
  where
    on : (o : Option SchemaDef) → has_text (union_members_named o) T ≡ true → option_and_then (λ (d : SchemaDef). field_named (fields_of d) n) o ≡ None
    on None h = absurd (true≢false (sym h))
    on (Some (S.Union m ds ms)) h = refl
    on (Some d) h = absurd (true≢false (sym h))

pub type_of_field : (defs : Defs) (T n : Text) → bytes_eq n (codes "__typename") ≡ false → type_on defs T n ≡ type_or (option_map (λ (f : FieldTree). ty_of f.of) (field_on defs T n))
type_of_field defs T n e = ap (λ b. type_or (cond b (typename_on (is_composite defs T)) (option_map (λ (f : FieldTree). ty_of f.of) (field_on defs T n)))) e

module _ (defs : Defs) (meets : SchemaMeets defs) where
  -- an object type is no interface
  no_interface : (T t : Text) → implements defs T t ≡ true → is_object defs t ≡ true → ⊥
  no_interface T t e o = not_both (kind_of defs t) (implemented defs meets T t e).kind o

  only_itself : (t T : Text) → is_object defs t ≡ true → applies defs T t ≡ true → T ≡ t
  only_itself t T o e = by_applying defs T t e (λ same. same) (λ i. absurd (no_interface T t i o))
      (λ m. absurd (true≢false (sym m ∙ no_union is_object_kind defs t T refl refl o)))

  -- an object type may be itself alone
  pub object_alone : (t : Text) → is_object defs t ≡ true → possible defs t ≡ t ∷ []
  object_alone t o =
      sorted_alone (filter (λ T. applies defs T t) (objects defs)) t (λ m h. only_itself t m o (in_filter (λ T. applies defs T t) (objects defs) m h).1)
      (left_by (λ T. applies defs T t) (objects defs) t (object_there defs t o)
      (ap (λ b. (b || implements defs t t) || has_text (union_members_named (type_named defs t)) t) (same_self t)))

  pub possible_in_object : (t T : Text) → is_object defs t ≡ true → has_text (possible defs t) T ≡ true → T ≡ t
  possible_in_object t T o h = only_itself t T o (possible_is defs t T h).1

  -- what implements an interface implements those that it implements
  implements_inner : (T a b : Text) → implements defs T a ≡ true → implements defs a b ≡ true → implements defs T b ≡ true
  implements_inner T a b e f =
      let named : List Text = interfaces_named (type_named defs T) in
      stands_in (has_text named b) (none_such (λ one. not (has_text named one)) (interfaces_named (type_named defs a)) b (implemented defs meets T a e).inner f)

  applies_inner : (T a b : Text) → is_interface defs a ≡ true → implements defs a b ≡ true → applies defs T a ≡ true → applies defs T b ≡ true
  applies_inner T a b i f e = by_applying defs T a e
      (λ same. implements_applies defs T b (ap (λ (t : Text). implements defs t b) same ∙ f))
      (λ g. implements_applies defs T b (implements_inner T a b g f))
      (λ m. absurd (true≢false (sym m ∙ no_union is_interface_kind defs a T refl refl i)))

  -- what a narrower type may be the wider one may be
  pub narrow_within : (a b : Text) → is_narrower_name defs a b ≡ true → Within defs a b
  narrow_within a b e T h = by_narrowing defs a b e
      (λ same. subst (λ (t : Text). has_text (possible defs t) T ≡ true) same h)
      (λ o f.
      let r = possible_is defs a T h in
      possible_from defs b T r.0 (ap (λ (t : Text). applies defs t b) (only_itself a T o r.1) ∙ f))
      (λ i f. let r = possible_is defs a T h in possible_from defs b T r.0 (applies_inner T a b i f r.1))

  -- an object type has no narrower one
  pub narrow_object : (a b : Text) → is_narrower_name defs a b ≡ true → is_object defs b ≡ true → a ≡ b
  narrow_object a b e o = by_narrowing defs a b e (λ same. same) (λ i f. only_itself b a o f) (λ i f. absurd (no_interface a b f o))

  narrower_on : (t T n : Text) (w : FieldTree) → has_text (possible defs t) T ≡ true → field_on defs t n ≡ Some w → Narrower defs (field_on defs T n) w
  narrower_on t T n w h e = by_applying defs T t (possible_is defs t T h).1
      (λ same.
      subst (λ (u : Text). Narrower defs (field_on defs u n) w) (sym same) (record { field = w; is = e; narrower = narrower_itself defs (ty_of w.of) }))
      (λ i. narrower_field defs meets T t n w i e)
      (λ m. let nothing : None ≡ Some w = sym (union_has_none defs t T n m) ∙ e in absurd cc)

  -- a field that is on a type is on each object type that it may be, and there of a narrower type, or of the same
  pub covariant : (t T n : Text) → has_text (possible defs t) T ≡ true → bytes_eq n (codes "__typename") ≡ false → is_some (field_type defs (Some t) n) ≡ true
      → is_narrower_name defs (base_on defs T n) (base_on defs t n) ≡ true
  covariant t T n h off e =
      on (field_on defs t n) refl (sym (ap (λ b. is_some (cond b (typename_on (is_composite defs t)) (option_map (λ (f : FieldTree). ty_of f.of) (field_on defs t n)))) off) ∙ e)
    where
      on : (o : Option FieldTree) → field_on defs t n ≡ o → is_some (option_map (λ (f : FieldTree). ty_of f.of) o) ≡ true
          → is_narrower_name defs (base_on defs T n) (base_on defs t n) ≡ true
      on None d i = absurd (true≢false (sym i))
      on (Some w) d i =
          let r = narrower_on t T n w h d in
          let here : type_on defs T n ≡ ty_of r.field.of = type_of_field defs T n off ∙ ap (λ (o : Option FieldTree). type_or (option_map (λ (f : FieldTree). ty_of f.of) o)) r.is in
          let there : type_on defs t n ≡ ty_of w.of = type_of_field defs t n off ∙ ap (λ (o : Option FieldTree). type_or (option_map (λ (f : FieldTree). ty_of f.of) o)) d in
          ap (λ (u : Ty). is_narrower_name defs (base_of u) (base_on defs t n)) here
          ∙ ap (λ (u : Ty). is_narrower_name defs (base_of (ty_of r.field.of)) (base_of u)) there
          ∙ narrower_base defs (ty_of r.field.of) (ty_of w.of) r.narrower
