-- A read looks at fields of ids that it stands at; so two maps with the same slots there give the same read.
use Rattle.std.proofs.Common.{◌≡◌, ℕ, zero, suc, Bool, true, false, List, [], ◌∷◌, Option, Some, None, ap}
use Rattle.store_record.specs.gql_plain.Order.{has_text}
use Rattle.store_record.specs.Keys.{Text}
use Rattle.store_record.specs.declared.field.Field.{Field}
use Rattle.store_record.specs.declared.field.Field.TheVariants.{Leaf, Link, Links}
use Rattle.store_record.specs.gql_plain.declared.plain.Plain.{Plain}
use Rattle.store_record.specs.gql_plain.declared.plain.Plain.TheVariants.{Null, Bool as Truth, Int, Text as Words, List as Listed, Tree as Object}
use Rattle.store_model.proofs.Least.{Each, each_append, each_left, each_right, each_so}
use Rattle.store_model.proofs.SameRead.{read_same}
use Rattle.store_model.specs.Agree.{AgreeAt, AgreeUnder}
use Rattle.store_model.specs.Items.{Form, typename, leaf, one, many, Pointer, Group, parts, Collect, groups_at, pointers_on}
use Rattle.store_model.specs.Walks.{Slots, Fields, Standing, absent, gone, lives, standing_of, field_of, Trace, join_traces, looks_at, Shown, Next, leaf_at, null_alone, one_at, element_at, elements_at, many_at, value_at, read_key, group_at, fields_at, pointer_at, pointers_at, marks, object_at, where_possible, stand_at, read_at}

-- what holds of each id stood at holds of each id whose field is looked at
abbrev pub Within : (Text → Type 0) → Trace → Type 0
Within P t = Each P t.seen → Each (λ p. P p.0) t.looked

within_joined : (P : Text → Type 0) (s t : Trace) → Within P s → Within P t → Within P (join_traces s t)
within_joined P s t a b h = each_append (λ p. P p.0) s.looked t.looked (a (each_left P s.seen t.seen h)) (b (each_right P s.seen t.seen h))

within_look : (P : Text → Type 0) (form : Form) (id key : Text) → P id → Within P (looks_at form id key)
within_look P typename id key here h = tt
within_look P leaf id key here h = (here, tt)
within_look P (one b) id key here h = (here, tt)
within_look P (many b) id key here h = (here, tt)

within_null : (P : Text → Type 0) (value : Plain) → Within P (null_alone value).1
within_null P Null h = tt
within_null P (Truth b) h = tt
within_null P (Int z) h = tt
within_null P (Words s) h = tt
within_null P (Listed ts) h = tt
within_null P (Object ms) h = tt

within_leaf : (P : Text → Type 0) (field : Option Field) → Within P (leaf_at field).1
within_leaf P None h = tt
within_leaf P (Some (Leaf value)) h = tt
within_leaf P (Some (Link id)) h = tt
within_leaf P (Some (Links ids)) h = tt

module _ {F : Type 0} (P : Text → Type 0) (next : Next F) (within : (types : List Text) (fs : List F) (id : Text) → Within P (next types fs id).1) where
  within_one : (types : List Text) (fs : List F) (field : Option Field) → Within P (one_at next types fs field).1
  within_one types fs None h = tt
  within_one types fs (Some (Leaf value)) h = within_null P value h
  within_one types fs (Some (Link id)) h = within types fs id h
  within_one types fs (Some (Links ids)) h = tt

  within_element : (types : List Text) (fs : List F) (e : Option Text) → Within P (element_at next types fs e).1
  within_element types fs None h = tt
  within_element types fs (Some id) h = within types fs id h

  within_elements : (types : List Text) (fs : List F) (es : List (Option Text)) → Within P (elements_at next types fs es).1
  within_elements types fs [] h = tt
  within_elements types fs (e ∷ es) h =
      within_joined P (element_at next types fs e).1 (elements_at next types fs es).1 (within_element types fs e) (within_elements types fs es) h

  within_many : (types : List Text) (fs : List F) (field : Option Field) → Within P (many_at next types fs field).1
  within_many types fs None h = tt
  within_many types fs (Some (Leaf value)) h = within_null P value h
  within_many types fs (Some (Link id)) h = tt
  within_many types fs (Some (Links ids)) h = within_elements types fs ids h

  within_value : (T : Text) (fs : List F) (form : Form) (field : Option Field) → Within P (value_at next T fs form field).1
  within_value T fs typename field h = tt
  within_value T fs leaf field h = within_leaf P field h
  within_value T fs (one b) field h = within_one b.types fs field h
  within_value T fs (many b) field h = within_many b.types fs field h

  within_fields : (T id : Text) (fields : Fields) (end : Shown × Trace) (groups : List (Group F)) → P id → Within P end.1 → Within P (fields_at next T id fields end groups).1
  within_fields T id fields end [] here before h = before h
  within_fields T id fields end (g ∷ groups) here before h =
      let look = looks_at g.first.ask.form id (read_key g.first.ask) in
      let value = (group_at next T fields g).1 in
      within_joined P (join_traces look value) (fields_at next T id fields end groups).1
      (within_joined P look value (within_look P g.first.ask.form id (read_key g.first.ask) here) (within_value T (parts g) g.first.ask.form (fields (read_key g.first.ask))))
      (within_fields T id fields end groups here before) h

  within_pointer : (T id : Text) (p : Pointer F) (inline : Bool) → Within P (pointer_at next T id p inline).1
  within_pointer T id p false h = tt
  within_pointer T id p true h = within (T ∷ []) (p.body ∷ []) id h

  within_pointers : (T id : Text) (ps : List (Pointer F)) → Within P (pointers_at next T id ps).1
  within_pointers T id [] h = tt
  within_pointers T id (p ∷ ps) h =
      within_joined P (pointer_at next T id p p.inline).1 (pointers_at next T id ps).1 (within_pointer T id p p.inline) (within_pointers T id ps) h

  within_possible : (id : Text) (possible : Bool) (r : Shown × Trace) → (P id → Within P r.1) → Within P (where_possible possible id r).1
  within_possible id true r below h = below h.0 h.1
  within_possible id false r below h = tt

  within_stand : (collect : Collect F) (typed : Text → Text) (owner : Text) (types : List Text) (fs : List F) (id : Text) (s : Standing) (fields : Fields)
      → Within P (stand_at collect typed owner next types fs id s fields).1
  within_stand collect typed owner types fs id absent fields h = tt
  within_stand collect typed owner types fs id gone fields h = tt
  within_stand collect typed owner types fs id (lives name) fields h =
      let T = typed name in
      let ps = pointers_on collect T fs in
      within_possible id (has_text types T) (object_at collect owner next T fs id fields)
      (λ here. within_fields T id fields (marks owner id (pointers_at next T id ps)) (groups_at collect T fs) here (within_pointers T id ps)) h

module _ {F : Type 0} (collect : Collect F) (typed : Text → Text) (owner : Text) (m : Slots) where
  -- every field looked at is one of an id stood at
  pub read_within : (P : Text → Type 0) (depth : ℕ) (types : List Text) (fs : List F) (id : Text) → Within P (read_at collect typed owner m depth types fs id).1
  read_within P zero types fs id h = tt
  read_within P (suc depth) types fs id h =
      within_stand P (read_at collect typed owner m depth) (read_within P depth) collect typed owner types fs id (standing_of (m id)) (field_of (m id)) h

  -- a read stays the same in every map with the same slots at the ids stood at
  pub read_same_seen : (n : Slots) (depth : ℕ) (types : List Text) (fs : List F) (id : Text) → Each (λ j. m j ≡ n j) (read_at collect typed owner m depth types fs id).1.seen
      → read_at collect typed owner n depth types fs id ≡ read_at collect typed owner m depth types fs id
  read_same_seen n depth types fs id h =
      let t = (read_at collect typed owner m depth types fs id).1 in
      read_same collect typed owner m n depth types fs id (record {
        ids = each_so (λ j. m j ≡ n j) (AgreeAt m n) t.seen (λ j e. ap standing_of e) h;
        fields = each_so (λ p. m p.0 ≡ n p.0) (AgreeUnder m n) t.looked (λ p e. ap (λ s. field_of s p.1) e) (read_within (λ j. m j ≡ n j) depth types fs id h);
      })
