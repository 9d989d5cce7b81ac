-- What the rules on schemas say of interfaces: which types name them, and of which types the fields of those are.
use Rattle.std.proofs.Common.{◌≡◌, ℕ, ◌+◌, Bool, true, false, true≢false, not, ◌&&◌, ◌||◌, cond, List, [], ◌∷◌, ◌++◌, codes, Option, Some, None, bytes_eq, refl, ap, sym, subst, ◌∙◌}
use Rattle.std.specs.List.{AllByRecursion, filter, list_any}
use Rattle.std.specs.Option.{option_and_then}
use Rattle.plan_ir.specs.gql_ast.Ty.{Ty}
use Rattle.plan_ir.specs.gql_ast.Ty as ty
use Rattle.plan_ir.specs.gql_ast.TypeView.{ty_of}
use Rattle.plan_ir.specs.gql_ast.declared.member.FieldTree.{FieldTree}
use Rattle.plan_ir.specs.gql_ast.declared.schema.SchemaDef.{SchemaDef}
use Rattle.plan_ir.specs.gql_ast.declared.schema.SchemaDef.TheVariants as S
use Rattle.plan_ir.proofs.gql_graph_laws.TextSteps.{same_text, same_self, either_of}
use Rattle.plan_ir.specs.gql_graph.Rules.{each, wrong}
use Rattle.plan_ir.specs.gql_plain.Order.{has_text}
use Rattle.plan_build.proofs.CovarianceLists.{all_hold, all_kept, all_map, all_parts, none_each, none_first, none_then, not_so, right}
use Rattle.plan_build.proofs.CovarianceNames.{found_holds}
use Rattle.plan_ir.proofs.schema_rules_laws.InheritedSteps.{none_such}
use Rattle.plan_ir.specs.schema_rules.Checked.{IsSound}
use Rattle.plan_ir.specs.schema_rules.Rules.{arguments_lack, begins_with_underscores, cannot_implement, defined_names, field_differs, field_found, further_argument, has_effect, implements_wrong, implements_wrong_in, is_interface, is_narrower, is_narrower_name, is_object, lacks_of_interface, leaves_out, not_implemented_in, reserved_name, root_types_wrong, rules}
use Rattle.plan_ir.specs.schema_tables.Types.{Text, Defs, applies, base_of, field_named, field_on, fields_named, fields_of, implements, interfaces_named, type_named}
use Rattle.plan_ir.specs.schema_trees.DefinitionParts.{defined_name, enum_values_in, field_names, fields_in, input_names, inputs_in, names_of}
use Rattle.plan_ir.specs.schema_trees.Located.{Located, FieldAt, DefAt, def_at, directives_nodes, field_at, field_nodes, fields_at, locate, name_at, names_at, names_nodes}

-- S3, S4, S7 and S8
pub record SchemaMeets (defs : Defs) : Type 0 where
  pub roots : root_types_wrong defs (filter has_effect (locate defs)) ≡ []
  pub names : AllByRecursion (λ a. has_effect a ≡ true → each reserved_name (defined_names a) ≡ []) (locate defs)
  pub interfaces : AllByRecursion (λ a. has_effect a ≡ true → implements_wrong_in defs a ≡ []) (locate defs)
  pub fields : AllByRecursion (λ a. has_effect a ≡ true → not_implemented_in defs a ≡ []) (locate defs)

pub sound_meets : (defs : Defs) → IsSound defs → SchemaMeets defs
sound_meets defs e =
    let ds : List DefAt = filter has_effect (locate defs) in
    let h = all_hold (rules defs ds) e in record {
      roots = h.1.1.0;
      names =
          all_kept (λ a. each reserved_name (defined_names a) ≡ []) has_effect (locate defs) (none_each (λ a. each reserved_name (defined_names a)) ds h.1.1.1.0);
      interfaces = all_kept (λ a. implements_wrong_in defs a ≡ []) has_effect (locate defs) (none_each (implements_wrong_in defs) ds h.1.1.1.1.1.1.0);
      fields = all_kept (λ a. not_implemented_in defs a ≡ []) has_effect (locate defs) (none_each (not_implemented_in defs) ds h.1.1.1.1.1.1.1.0);
    }

-- ---- names with their places

names_same : (from : ℕ) (ns : List Text) → names_of (names_at from ns) ≡ ns
names_same from [] = refl
names_same from (n ∷ ns) = ap (λ (ms : List Text). n ∷ ms) (names_same (from + 1) ns)

at_name : (P : Text → Type 0) (from : ℕ) (ns : List Text) (m : Text) → AllByRecursion (λ (l : Located). P l.name) (names_at from ns) → has_text ns m ≡ true → P m
at_name P from [] m h e = absurd (true≢false (sym e))
at_name P from (n ∷ ns) m h e = either_of (bytes_eq n m) (has_text ns m) e
    (λ g. subst P (same_text n m g) h.0)
    (λ g. at_name P (from + 1) ns m h.1 g)

-- ---- S7

-- a name that stands among those of the interfaces of a type is that of an interface, and so are those of the interfaces of that one
pub record IsImplemented (defs : Defs) (named : List Text) (i : Text) : Type 0 where
  pub kind : is_interface defs i ≡ true
  pub inner : leaves_out defs named i ≡ false

is_one : (a b : Bool) (at : ℕ) → wrong (not a || b) at ≡ [] → a ≡ true
is_one true b at e = refl
is_one false b at e = absurd cc

-- what the rule says of one of the names
implements_right : (defs : Defs) (around : Located) (from : ℕ) (ns : List Text) (i : Text) → implements_wrong defs around (names_at from ns) ≡ [] → has_text ns i ≡ true → IsImplemented defs ns i
implements_right defs around from ns i e h =
    let ls : List Located = names_at from ns in
    let first = none_first (each (cannot_implement defs around.name) ls) (wrong (list_any (leaves_out defs (names_of ls)) (names_of ls)) around.at) e in
    let last = none_then (each (cannot_implement defs around.name) ls) (wrong (list_any (leaves_out defs (names_of ls)) (names_of ls)) around.at) e in record {
      kind =
          at_name (λ n. is_interface defs n ≡ true) from ns i
          (all_map (λ l. cannot_implement defs around.name l ≡ []) (λ (l : Located). is_interface defs l.name ≡ true)
          (λ l k. is_one (is_interface defs l.name) (bytes_eq l.name around.name) l.at k) ls (none_each (cannot_implement defs around.name) ls first)) h;
      inner =
          none_such (leaves_out defs ns) ns i
          (subst (λ (ms : List Text). list_any (leaves_out defs ms) ms ≡ false) (names_same from ns)
          (not_so (list_any (leaves_out defs (names_of ls)) (names_of ls)) around.at last)) h;
    }

-- what a type implements
pub implemented : (defs : Defs) → SchemaMeets defs → (T i : Text) → implements defs T i ≡ true → IsImplemented defs (interfaces_named (type_named defs T)) i
implemented defs meets T i e = on (type_named defs T) refl e
  where
    on : (o : Option SchemaDef) → type_named defs T ≡ o → has_text (interfaces_named o) i ≡ true → IsImplemented defs (interfaces_named o) i
    on None d e = absurd (true≢false (sym e))
    on (Some (S.Object n is ds fs)) d e =
        let r = found_holds (λ a. implements_wrong_in defs a ≡ []) defs 1 T (S.Object n is ds fs) (λ at. refl) meets.interfaces d in
        implements_right defs (name_at r.0 n) (r.0 + 2) is i r.1 e
    on (Some (S.Interface n is ds fs)) d e =
        let r = found_holds (λ a. implements_wrong_in defs a ≡ []) defs 1 T (S.Interface n is ds fs) (λ at. refl) meets.interfaces d in
        implements_right defs (name_at r.0 n) (r.0 + 2) is i r.1 e
    on (Some x) d e = absurd (true≢false (sym e))

-- ---- S8

-- a field that is found, of this type
record FieldIs (o : Option FieldTree) (t : Ty) : Type 0 where
  field : FieldTree
  is : o ≡ Some field
  same : ty_of field.of ≡ t

-- a field with its place is the field itself
field_at_found : (from : ℕ) (fs : List FieldTree) (n : Text) (f : FieldAt) → field_found (fields_at from fs) n ≡ Some f → FieldIs (field_named fs n) f.of.of
field_at_found from [] n f e = absurd cc
field_at_found from (g ∷ gs) n f e = on (λ k. field_at_found (from + field_nodes g) gs n f k) (bytes_eq g.name n) e
  where
    on : (field_found (fields_at (from + field_nodes g) gs) n ≡ Some f → FieldIs (field_named gs n) f.of.of) → (b : Bool)
        → cond b (Some (field_at from g)) (field_found (fields_at (from + field_nodes g) gs) n) ≡ Some f → FieldIs (cond b (Some g) (field_named gs n)) f.of.of
    on later true e = let one : field_at from g ≡ f = cc e in record { field = g; is = refl; same = ap (λ (x : FieldAt). x.of.of) one }
    on later false e = later e

-- a field of a narrower type than that of this field, or of the same
pub record Narrower (defs : Defs) (o : Option FieldTree) (w : FieldTree) : Type 0 where
  pub field : FieldTree
  pub is : o ≡ Some field
  pub narrower : is_narrower defs (ty_of field.of) (ty_of w.of) ≡ true

-- what the rule says of one field of an interface
wanted_right : (defs : Defs) (at from : ℕ) (fs : List FieldTree) (w : FieldTree) → field_differs defs at (field_found (fields_at from fs) w.name) w ≡ [] → Narrower defs (field_named fs w.name) w
wanted_right defs at from fs w e = on (field_found (fields_at from fs) w.name) refl e
  where
    on : (o : Option FieldAt) → field_found (fields_at from fs) w.name ≡ o → field_differs defs at o w ≡ [] → Narrower defs (field_named fs w.name) w
    on None d e = absurd cc
    on (Some f) d e =
        let g = field_at_found from fs w.name f d in
        let type_wrong : List ℕ = wrong (not (is_narrower defs f.of.of (ty_of w.of))) f.of.at in
        let first = none_first (type_wrong ++ each (arguments_lack f) w.arguments) (each (further_argument w.arguments) f.arguments) e in
        record {
          field = g.field;
          is = g.is;
          narrower =
              ap (λ (t : Ty). is_narrower defs t (ty_of w.of)) g.same
              ∙ right (is_narrower defs f.of.of (ty_of w.of)) f.of.at (none_first type_wrong (each (arguments_lack f) w.arguments) first);
        }

-- what holds of each field holds of the one that is found, and it has that name
field_holds : (P : FieldTree → Type 0) (fs : List FieldTree) (n : Text) (w : FieldTree) → AllByRecursion P fs → field_named fs n ≡ Some w → P w × (w.name ≡ n)
field_holds P [] n w h e = absurd cc
field_holds P (f ∷ fs) n w h e = on (λ k. field_holds P fs n w h.1 k) (bytes_eq f.name n) refl e
  where
    on : (field_named fs n ≡ Some w → P w × (w.name ≡ n)) → (b : Bool) → bytes_eq f.name n ≡ b → cond b (Some f) (field_named fs n) ≡ Some w → P w × (w.name ≡ n)
    on later true d e = let same : f ≡ w = cc e in (subst P same h.0, ap (λ (x : FieldTree). x.name) (sym same) ∙ same_text f.name n d)
    on later false d e = later e

abbrev lacks : Defs → (at : ℕ) → List FieldAt → FieldTree → List ℕ
lacks defs at fs w = field_differs defs at (field_found fs w.name) w

-- and of the one of a name, on one of the interfaces
fields_right : (defs : Defs) (around : Located) (named : ℕ) (is : List Text) (from : ℕ) (fs : List FieldTree) (i n : Text) (w : FieldTree)
    → each (lacks_of_interface defs around (fields_at from fs)) (names_at named is) ≡ [] → has_text is i ≡ true → field_named (fields_named (type_named defs i)) n ≡ Some w
    → Narrower defs (field_named fs n) w
fields_right defs around named is from fs i n w e h f =
    let all = at_name (λ m. each (lacks defs around.at (fields_at from fs)) (fields_named (type_named defs m)) ≡ []) named is i
    (none_each (lacks_of_interface defs around (fields_at from fs)) (names_at named is) e) h in
    let one = field_holds (λ x. lacks defs around.at (fields_at from fs) x ≡ []) (fields_named (type_named defs i)) n w
    (none_each (lacks defs around.at (fields_at from fs)) (fields_named (type_named defs i)) all) f in
    subst (λ (m : Text). Narrower defs (field_named fs m) w) one.1 (wanted_right defs around.at from fs w one.0)

field_on_type : (o : Option SchemaDef) (n : Text) → field_named (fields_named o) n ≡ option_and_then (λ (d : SchemaDef). field_named (fields_of d) n) o
field_on_type None n = refl
field_on_type (Some d) n = refl

-- a field of an interface that a type implements
pub narrower_field : (defs : Defs) → SchemaMeets defs → (T i n : Text) (w : FieldTree) → implements defs T i ≡ true → field_on defs i n ≡ Some w → Narrower defs (field_on defs T n) w
narrower_field defs meets T i n w e f = on (type_named defs T) refl e
  where
    wanted : field_named (fields_named (type_named defs i)) n ≡ Some w
    wanted = field_on_type (type_named defs i) n ∙ f

    on : (o : Option SchemaDef) → type_named defs T ≡ o → has_text (interfaces_named o) i ≡ true → Narrower defs (option_and_then (λ (d : SchemaDef). field_named (fields_of d) n) o) w
    on None d e = absurd (true≢false (sym e))
    on (Some (S.Object m is ds fs)) d e =
        let r = found_holds (λ a. not_implemented_in defs a ≡ []) defs 1 T (S.Object m is ds fs) (λ at. refl) meets.fields d in
        fields_right defs (name_at r.0 m) (r.0 + 2) is (r.0 + 2 + names_nodes is + directives_nodes ds) fs i n w r.1 e wanted
    on (Some (S.Interface m is ds fs)) d e =
        let r = found_holds (λ a. not_implemented_in defs a ≡ []) defs 1 T (S.Interface m is ds fs) (λ at. refl) meets.fields d in
        fields_right defs (name_at r.0 m) (r.0 + 2) is (r.0 + 2 + names_nodes is + directives_nodes ds) fs i n w r.1 e wanted
    on (Some x) d e = absurd (true≢false (sym e))

-- ---- narrower types

pub narrower_name_itself : (defs : Defs) (n : Text) → is_narrower_name defs n n ≡ true
narrower_name_itself defs n = ap (λ b. (b || (is_object defs n && applies defs n n)) || (is_interface defs n && implements defs n n)) (same_self n)

pub narrower_itself : (defs : Defs) (t : Ty) → is_narrower defs t t ≡ true
narrower_itself defs (ty.named n) = narrower_name_itself defs n
narrower_itself defs (ty.list t) = narrower_itself defs t
narrower_itself defs (ty.non_null t) = narrower_itself defs t

pub narrower_base : (defs : Defs) (a b : Ty) → is_narrower defs a b ≡ true → is_narrower_name defs (base_of a) (base_of b) ≡ true
narrower_base defs (ty.named a) (ty.named b) e = e
narrower_base defs (ty.named a) (ty.list b) e = absurd (true≢false (sym e))
narrower_base defs (ty.named a) (ty.non_null b) e = absurd (true≢false (sym e))
narrower_base defs (ty.list a) (ty.named b) e = absurd (true≢false (sym e))
narrower_base defs (ty.list a) (ty.list b) e = narrower_base defs a b e
narrower_base defs (ty.list a) (ty.non_null b) e = absurd (true≢false (sym e))
narrower_base defs (ty.non_null a) (ty.named b) e = narrower_base defs a (ty.named b) e
narrower_base defs (ty.non_null a) (ty.list b) e = narrower_base defs a (ty.list b) e
narrower_base defs (ty.non_null a) (ty.non_null b) e = narrower_base defs a b e

-- ---- S4

-- the names of fields are not reserved
fields_unreserved : (a : DefAt) → each reserved_name (defined_names a) ≡ [] → AllByRecursion (λ l. reserved_name l ≡ []) (field_names (fields_in a))
fields_unreserved a e =
    let front : List Located = defined_name a ++ field_names (fields_in a) in
    let all = none_each reserved_name (defined_names a) e in
    let three = all_parts (λ l. reserved_name l ≡ []) (front ++ input_names (inputs_in a)) (enum_values_in a) all in
    let two = all_parts (λ l. reserved_name l ≡ []) front (input_names (inputs_in a)) three.0 in
    (all_parts (λ l. reserved_name l ≡ []) (defined_name a) (field_names (fields_in a)) two.0).1

-- where no name is reserved, no field has that of the type name
none_named : (from : ℕ) (fs : List FieldTree) → AllByRecursion (λ l. reserved_name l ≡ []) (field_names (fields_at from fs)) → field_named fs (codes "__typename") ≡ None
none_named from [] h = refl
none_named from (f ∷ fs) h = on (none_named (from + field_nodes f) fs h.1) (bytes_eq f.name (codes "__typename")) refl
  where
    on : field_named fs (codes "__typename") ≡ None → (b : Bool) → bytes_eq f.name (codes "__typename") ≡ b → cond b (Some f) (field_named fs (codes "__typename")) ≡ None
    on later true e =
        let same : f.name ≡ codes "__typename" = same_text f.name (codes "__typename") e in
        absurd (true≢false (sym (ap begins_with_underscores same) ∙ not_so (begins_with_underscores f.name) (from + 1) h.0))
    on later false e = later

-- no type has a field of that name
pub no_typename : (defs : Defs) → SchemaMeets defs → (T : Text) → field_on defs T (codes "__typename") ≡ None
no_typename defs meets T = on (type_named defs T) refl
  where
    on : (o : Option SchemaDef) → type_named defs T ≡ o → option_and_then (λ (d : SchemaDef). field_named (fields_of d) (codes "__typename")) o ≡ None
    on None d = refl
    on (Some (S.Object m is ds fs)) d =
        let r = found_holds (λ a. each reserved_name (defined_names a) ≡ []) defs 1 T (S.Object m is ds fs) (λ at. refl) meets.names d in
        none_named (r.0 + 2 + names_nodes is + directives_nodes ds) fs (fields_unreserved (def_at r.0 (S.Object m is ds fs)) r.1)
    on (Some (S.Interface m is ds fs)) d =
        let r = found_holds (λ a. each reserved_name (defined_names a) ≡ []) defs 1 T (S.Interface m is ds fs) (λ at. refl) meets.names d in
        none_named (r.0 + 2 + names_nodes is + directives_nodes ds) fs (fields_unreserved (def_at r.0 (S.Interface m is ds fs)) r.1)
    on (Some x) d = refl
