-- What is known of the fields that parts give on an object type, and of their groups: each connection leads to the type of one, and its set asks
-- for the page information.
use Rattle.std.proofs.Common.{◌≡◌, Bool, true, false, true≢false, ◌&&◌, cond, List, [], ◌∷◌, ◌++◌, map, codes, Option, Some, None, option_map, is_some, bytes_eq, refl, ap, sym, subst, ◌∙◌, inl, inr}
use Rattle.std.specs.List.{AllByRecursion}
use Rattle.plan_ir.specs.gql_ast.declared.directive.Directive.{Directive}
use Rattle.plan_ir.proofs.gql_graph_laws.TextSteps.{either_of, same_text}
use Rattle.plan_ir.specs.gql_plain.Order.{has_text}
use Rattle.plan_ir.specs.gql_plain.declared.ids.Conn.{Conn}
use Rattle.plan_build.proofs.CovarianceLists.{first_true, then_true}
use Rattle.plan_build.proofs.CovarianceNames.{object_is_composite}
use Rattle.plan_build.proofs.Grouped.{groups_seen, seen_group}
use Rattle.plan_build.proofs.PartLaws.{Holds, Merge, among_left, among_right, each_append, each_if, each_left}
use Rattle.plan_build.proofs.Parts.{Part, as_set, child, gather, gather_all, gather_in, node_items, set_of}
use Rattle.plan_build.proofs.SoundTypes.{are_objects}
use Rattle.plan_build.proofs.StepLaws.{inside_type}
use Rattle.plan_build.specs.Connected.{Connected, FieldConnects, asks_page}
use Rattle.plan_build.specs.Meeting.{base_on}
use Rattle.plan_build.specs.NodesMeaning.{Set, ask_of_node, collect_nodes}
use Rattle.plan_build.specs.Suited.{type_inside}
use Rattle.plan_ir.specs.Additions.{type_or}
use Rattle.plan_ir.specs.Nodes as nodes
use Rattle.plan_ir.specs.Nodes.{Nodes}
use Rattle.plan_ir.specs.schema_rules.Checked.{IsSound}
use Rattle.plan_ir.specs.schema_rules.Rules.{is_object}
use Rattle.plan_ir.specs.schema_tables.Types.{Text, Defs, base_of, is_composite, is_empty, possible}
use Rattle.plan_ir.specs.schema_types.Environments.{Values}
use Rattle.plan_ir.specs.schema_types.Sites.{typename_on}
use Rattle.plan_ir.specs.store_model.Alike.{Among}
use Rattle.plan_ir.specs.store_model.Items.{Asked, collect_all, grouped_onto, groups_at, groups_of}
use Rattle.relay_machine.specs.relay_model.Collection.{connection_asked}
use Rattle.relay_machine.specs.plan_collect.Collecting.{applies, is_left_out}

-- ---- parts

abbrev pub PartPaged : Defs → Part → Type 0
PartPaged defs p = Connected defs p.type p.set.nodes

-- sets that are those of parts, of which all is known on an object type
pub record KnownAt (defs : Defs) (T : Text) (fs : List Set) : Type 0 where
  pub parts : List Part
  pub sets : fs ≡ map set_of parts
  pub holds : AllByRecursion (Holds defs T) parts
  pub merge : Merge defs parts
  pub paged : AllByRecursion (PartPaged defs) parts

-- their groups are those of the fields that the parts give
pub groups_are : (defs : Defs) (T : Text) (fs : List Set) (k : KnownAt defs T fs)
    → groups_at (collect_nodes defs) T fs ≡ map (seen_group as_set) (grouped_onto [] (gather_all defs T k.parts))
groups_are defs T fs k =
    ap groups_of (ap (collect_all (collect_nodes defs) T) k.sets ∙ node_items defs T k.parts) ∙ groups_seen as_set (gather_all defs T k.parts)

-- ---- fields

-- a connection on an object type: it leads to an object type, as its page information does, for which its set asks
pub record IsPaged (defs : Defs) (T n : Text) (s : Nodes) : Type 0 where
  pub apart : bytes_eq n (codes "__typename") ≡ false
  pub object : is_object defs (base_on defs T n) ≡ true
  pub page : is_object defs (base_on defs (base_on defs T n) (codes "pageInfo")) ≡ true
  pub asks : asks_page s ≡ true

-- what leads from an object type to one is no type name
no_typename : (defs : Defs) (T n : Text) → is_object defs T ≡ true → is_object defs (base_on defs T n) ≡ true → bytes_eq n (codes "__typename") ≡ false
no_typename defs T n own object = on (bytes_eq n (codes "__typename")) refl
  where
    none : (composite : Bool) → composite ≡ true → is_object defs (base_of (type_or (typename_on composite))) ≡ true → ⊥
    none true e o = true≢false (sym o)
    none false e o = true≢false (sym e)

    on : (b : Bool) → bytes_eq n (codes "__typename") ≡ b → b ≡ false
    on true e = absurd (none (is_composite defs T) (object_is_composite defs T own) (subst (λ (m : Text). is_object defs (base_on defs T m) ≡ true) (same_text n (codes "__typename") e) object))
    on false e = refl

paged_on : (defs : Defs) → IsSound defs → (t n of : Text) (s : Nodes) → FieldConnects defs t n of s → (T : Text) → has_text (possible defs t) T ≡ true → IsPaged defs T n s
paged_on defs sound t n of s h T there =
    let object : is_object defs (base_on defs T n) ≡ true = subst (λ (u : Text). is_object defs u ≡ true) (sym (h.same T there)) h.object in
    record {
      apart = no_typename defs T n (are_objects defs sound t T there) object;
      object = object;
      page = subst (λ (u : Text). is_object defs (base_on defs u (codes "pageInfo")) ≡ true) (sym (h.same T there)) h.page;
      asks = h.asks;
    }

-- a field that is gathered on an object type, and what stands below it
pub record FieldPaged (defs : Defs) (T : Text) (a : Asked Part) : Type 0 where
  pub page : is_some a.ask.connection ≡ true → IsPaged defs T a.ask.name a.part.set.nodes
  pub below : PartPaged defs a.part

is_connection : (c : Option Conn) → is_some (option_map connection_asked c) ≡ true → is_some c ≡ true
is_connection None i = i
is_connection (Some c) i = refl

module _ (defs : Defs) (sound : IsSound defs) (T : Text) where
  gathered_paged : (env : Values) (t : Text) (s : Nodes) → has_text (possible defs t) T ≡ true → Connected defs t s → AllByRecursion (FieldPaged defs T) (gather_in defs T env s)
  gathered_paged env t nodes.end there h = tt
  gathered_paged env t (nodes.field r n xs ds c of s p rest) there h =
      let one : Asked Part = record { ask = ask_of_node defs T env r n xs c; part = child defs env of s } in
      each_append (FieldPaged defs T) (cond (is_left_out env ds) [] (one ∷ [])) (gather_in defs T env rest)
      (each_left (FieldPaged defs T) (is_left_out env ds) (one ∷ []) (record { page = λ i. paged_on defs sound t n (base_of of) s (h.0 (is_connection c i)) T there; below = h.1 }, tt))
      (gathered_paged env t rest there h.2)
  gathered_paged env t (nodes.inline o ds s p rest) there h =
      each_append (FieldPaged defs T) (cond (is_left_out env ds) [] (cond (applies defs o T) (gather_in defs T env s) [])) (gather_in defs T env rest)
      (each_left (FieldPaged defs T) (is_left_out env ds) (cond (applies defs o T) (gather_in defs T env s) [])
      (each_if (FieldPaged defs T) (applies defs o T) (gather_in defs T env s) (λ it. gathered_paged env (type_inside defs t o) s (inside_type defs t o T there it) h.0)))
      (gathered_paged env t rest there h.1)

  pub all_paged : (ps : List Part) → AllByRecursion (Holds defs T) ps → AllByRecursion (PartPaged defs) ps → AllByRecursion (FieldPaged defs T) (gather_all defs T ps)
  all_paged [] h k = tt
  all_paged (p ∷ ps) h k =
      each_append (FieldPaged defs T) (gather defs T p) (gather_all defs T ps) (gathered_paged p.set.environment p.type p.set.nodes h.0.there k.0) (all_paged ps h.1 k.1)

-- ---- the page information

none_there : (ds : List Directive) → is_empty ds ≡ true → ds ≡ []
none_there [] e = refl
none_there (d ∷ ds) e = absurd (true≢false (sym e))

module _ (defs : Defs) (T : Text) where
  -- a field of its response key and its name
  pub record HasInfo (us : List (Asked Part)) : Type 0 where
    pub field : Asked Part
    pub there : Among field us
    pub response : field.ask.response ≡ codes "pageInfo"
    pub name : field.ask.name ≡ codes "pageInfo"

  later : (us vs : List (Asked Part)) → HasInfo vs → HasInfo (us ++ vs)
  later us vs i = record { field = i.field; there = among_right i.field us vs i.there; response = i.response; name = i.name }

  earlier : (us vs : List (Asked Part)) → HasInfo us → HasInfo (us ++ vs)
  earlier us vs i = record { field = i.field; there = among_left i.field us vs i.there; response = i.response; name = i.name }

  info_gathered : (env : Values) (s : Nodes) → asks_page s ≡ true → HasInfo (gather_in defs T env s)
  info_gathered env nodes.end h = absurd (true≢false (sym h))
  info_gathered env (nodes.field r n xs ds c of s p rest) h =
      let one : Asked Part = record { ask = ask_of_node defs T env r n xs c; part = child defs env of s } in
      let named : Bool = bytes_eq n (codes "pageInfo") && is_empty ds in
      either_of (bytes_eq r (codes "pageInfo") && named) (asks_page rest) h
      (λ k. earlier (cond (is_left_out env ds) [] (one ∷ [])) (gather_in defs T env rest) (record {
        field = one;
        there = subst (λ (ws : List Directive). Among one (cond (is_left_out env ws) [] (one ∷ [])))
            (sym (none_there ds (then_true (bytes_eq n (codes "pageInfo")) (is_empty ds) (then_true (bytes_eq r (codes "pageInfo")) named k)))) (inl refl);
        response = same_text r (codes "pageInfo") (first_true (bytes_eq r (codes "pageInfo")) named k);
        name = same_text n (codes "pageInfo") (first_true (bytes_eq n (codes "pageInfo")) (is_empty ds) (then_true (bytes_eq r (codes "pageInfo")) named k));
      }))
      (λ k. later (cond (is_left_out env ds) [] (one ∷ [])) (gather_in defs T env rest) (info_gathered env rest k))
  info_gathered env (nodes.inline o ds s p rest) h =
      later (cond (is_left_out env ds) [] (cond (applies defs o T) (gather_in defs T env s) [])) (gather_in defs T env rest) (info_gathered env rest h)

  -- where one of the parts asks for it
  pub info_among : (ps : List Part) (p : Part) → Among p ps → asks_page p.set.nodes ≡ true → HasInfo (gather_all defs T ps)
  info_among [] p there h = absurd there
  info_among (q ∷ ps) p (inl e) h =
      earlier (gather defs T q) (gather_all defs T ps) (info_gathered q.set.environment q.set.nodes (subst (λ (w : Part). asks_page w.set.nodes ≡ true) (sym e) h))
  info_among (q ∷ ps) p (inr there) h = later (gather defs T q) (gather_all defs T ps) (info_among ps p there h)
