-- A field that the rules allow suits each object type that the type around it may be.
use Rattle.std.proofs.Common.{◌≡◌, Bool, true, false, true≢false, cond, List, [], codes, Option, Some, None, is_some, bytes_eq, refl, ap, sym, subst, ◌∙◌}
use Rattle.plan_ir.specs.gql_ast.Ty.{Ty}
use Rattle.plan_ir.specs.gql_ast.Value.{Val}
use Rattle.plan_ir.proofs.gql_graph_laws.TextSteps.{same_text}
use Rattle.plan_ir.specs.gql_plain.Order.{has_text}
use Rattle.plan_ir.specs.gql_plain.declared.ids.Conn.{Conn}
use Rattle.plan_build.proofs.Covariance.{Within, covariant, narrow_object, narrow_within}
use Rattle.plan_build.proofs.CovarianceNames.{object_is_composite}
use Rattle.plan_build.proofs.CovarianceRules.{SchemaMeets}
use Rattle.plan_build.specs.Meeting.{IsConnectionType, base_on}
use Rattle.plan_build.specs.Suited.{FieldSuits, Suited}
use Rattle.plan_ir.specs.Additions.{type_on, type_or}
use Rattle.plan_ir.specs.Nodes.{Nodes, end}
use Rattle.relay_model.specs.Collection.{below_type, form_of_type, form_on}
use Rattle.plan_ir.specs.schema_rules.Rules.{is_narrower_name, is_object}
use Rattle.plan_ir.specs.schema_tables.Fits.{is_list_type}
use Rattle.plan_ir.specs.schema_tables.Types.{Text, Defs, base_of, is_composite, possible}
use Rattle.plan_ir.specs.schema_types.Sites.{field_type, typename_on}
use Rattle.plan_ir.specs.store_model.Items.{Below, leaf, many, one, typename}

-- ---- forms

-- an object or a list of objects is no leaf
no_leaf : (b : Bool) (x y : Below) → cond b (many x) (one y) ≡ leaf → ⊥
no_leaf true x y e = absurd cc
no_leaf false x y e = absurd cc

-- a field of a composite type is no leaf
composite_is_no_leaf : (defs : Defs) (T n : Text) → bytes_eq n (codes "__typename") ≡ false → is_composite defs (base_on defs T n) ≡ true → form_on defs T n ≡ leaf → ⊥
composite_is_no_leaf defs T n off e f =
    let t : Ty = type_on defs T n in
    let b : Below = below_type defs (base_of t) in
    no_leaf (is_list_type t) b b
    (sym (ap (λ c. cond c (cond (is_list_type t) (many b) (one b)) leaf) e) ∙ sym (ap (λ c. cond c typename (form_of_type defs t)) off) ∙ f)

-- ---- fields

-- what is asked of a field on the type around it
pub record FieldRight (defs : Defs) (around n : Text) (xs : List (Text × Val)) (c : Option Conn) : Type 0 where
  pub there : is_some (field_type defs (Some around) n) ≡ true
  pub bare : n ≡ codes "__typename" → xs ≡ []
  pub plain : n ≡ codes "__typename" → c ≡ None
  pub connection : is_some c ≡ true → IsConnectionType defs (base_on defs around n)

-- the type name is no object
no_object : (defs : Defs) (composite : Bool) → is_some (typename_on composite) ≡ true → is_object defs (base_of (type_or (typename_on composite))) ≡ true → ⊥
no_object defs true e o = true≢false (sym o)
no_object defs false e o = true≢false (sym e)

module _ (defs : Defs) (meets : SchemaMeets defs) where
  -- a field on the type around suits this object type, and so does its set
  abbrev On : (around n : Text) → List (Text × Val) → Option Conn → Nodes → (T : Text) → Type 0
  On around n xs c s T = FieldSuits defs T n xs c (type_on defs around n) × Suited defs (base_on defs around n) (base_on defs around n) s

  -- the type name, which has no set
  typename_on_object : (around T n : Text) (xs : List (Text × Val)) (c : Option Conn) (s : Nodes) → FieldRight defs around n xs c → n ≡ codes "__typename" → s ≡ end → On around n xs c s T
  typename_on_object around T n xs c s r same ends = (
    record {
      bare = r.bare;
      plain = r.plain;
      leaf_is_plain = λ e. r.plain same;
      within = λ off. absurd (true≢false (sym (ap (λ (m : Text). bytes_eq m (codes "__typename")) same) ∙ off));
    },
    subst (Suited defs (base_on defs around n) (base_on defs around n)) (sym ends) tt,
  )

  -- any other field
  other_on_object : (around T n : Text) (xs : List (Text × Val)) (c : Option Conn) (s : Nodes) → has_text (possible defs around) T ≡ true → FieldRight defs around n xs c
      → bytes_eq n (codes "__typename") ≡ false → Suited defs (base_on defs around n) (base_on defs around n) s → On around n xs c s T
  other_on_object around T n xs c s h r off inside = (
    record {
      bare = λ same. absurd (differs same);
      plain = λ same. absurd (differs same);
      leaf_is_plain = λ e. plain_leaf c r.connection e;
      within = λ e. narrow_within defs meets (base_on defs T n) (base_on defs around n) narrow;
    },
    inside,
  )
    where
      narrow : is_narrower_name defs (base_on defs T n) (base_on defs around n) ≡ true
      narrow = covariant defs meets around T n h off r.there

      differs : n ≡ codes "__typename" → ⊥
      differs same = true≢false (sym (ap (λ (m : Text). bytes_eq m (codes "__typename")) same) ∙ off)

      plain_leaf : (c : Option Conn) → (is_some c ≡ true → IsConnectionType defs (base_on defs around n)) → form_on defs T n ≡ leaf → c ≡ None
      plain_leaf None f e = refl
      plain_leaf (Some c) f e =
          let o = (f refl).object in
          let same = narrow_object defs meets (base_on defs T n) (base_on defs around n) narrow o in
          absurd (composite_is_no_leaf defs T n off (ap (is_composite defs) same ∙ object_is_composite defs (base_on defs around n) o) e)

  -- a field on a type that may be no more than the type around it; `inside` is its set on each type within its own
  pub field_suits : (around t n : Text) (xs : List (Text × Val)) (c : Option Conn) (s : Nodes) → Within defs t around → FieldRight defs around n xs c → (n ≡ codes "__typename" → s ≡ end)
      → Suited defs (base_on defs around n) (base_on defs around n) s
      → (T : Text) → has_text (possible defs t) T ≡ true → On around n xs c s T
  field_suits around t n xs c s within r ends inside T h = on (bytes_eq n (codes "__typename")) refl
    where
      on : (b : Bool) → bytes_eq n (codes "__typename") ≡ b → On around n xs c s T
      on true e = let same = same_text n (codes "__typename") e in typename_on_object around T n xs c s r same (ends same)
      on false e = other_on_object around T n xs c s (within T h) r e inside
