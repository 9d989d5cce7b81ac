-- A read that leaves spreads out stands only where the reach that enters all of them stands, and so does the read of each
-- pointer that it gives, and in turn of each that those reads give.
use Rattle.std.proofs.Common.{◌≡◌, ℕ, zero, suc, ◌≤◌, Bool, true, false, cond, List, [], ◌∷◌, ◌++◌, Option, Some, None, map, refl, sym, ap, subst, ◌∙◌, arith, bytes_eq, unwrap_or, inl, inr}
use Rattle.store_record.specs.gql_plain.Order.{has_text}
use Rattle.store_record.specs.gql_plain.declared.plain.Plain.{Plain}
use Rattle.store_record.specs.gql_plain.declared.plain.Plain.TheVariants.{Null, Bool as Truth, Int, Text as Words, List as Listed, Tree as Object}
use Rattle.store_record.specs.Keys.{Text, Arguments}
use Rattle.store_record.specs.declared.field.Field.{Field}
use Rattle.store_record.specs.declared.field.Field.TheVariants.{Leaf, Link, Links}
use Rattle.store_model.proofs.Least.{Each, each_append, each_left, each_right, each_so}
use Rattle.store_model.proofs.SameSlots.{read_same_seen}
use Rattle.store_model.specs.Alike.{Among}
use Rattle.store_model.proofs.Seated.{among_map, each_among, group_for, SeatedIn, Seated, grouped_seats, Fits, grouped_fits, among_all}
use Rattle.store_model.specs.Entries.{some_ids}
use Rattle.store_model.specs.Items.{Form, typename, leaf, one, many, Ask, key_of, handle_of, Asked, Pointer, Item, asked, pointed, Group, members, parts, asks, asked_of, groups_of, without, pointers, Collect, collect_all}
use Rattle.store_model.specs.Reaches.{Onward, types_of, links_of, links_under, links_followed, from_each, reach_asked, reach_groups, reach_stand, reach_at}
use Rattle.store_model.specs.Retention.{Covered, Covers}
use Rattle.store_model.specs.Walks.{Issued, trace_at, Slots, Fields, Standing, absent, gone, lives, standing_of, field_of, Trace, join_traces, looks_at, Shown, Found, Next, null_alone, leaf_at, one_at, elements_at, many_at, value_at, read_key, group_at, fields_at, pointer_at, pointers_at, marks, object_at, where_possible, stand_at, read_at, pointers_of_reads, pointers_in_turn}

-- ---- a field is read under one of the keys that are followed

module _ (P : Text → Type 0) (on : Text → List Text) where
  from_left : (xs ys : List Text) → Each P (from_each on (xs ++ ys)) → Each P (from_each on xs)
  from_left [] ys h = tt
  from_left (x ∷ xs) ys h =
      each_append P (on x) (from_each on xs) (each_left P (on x) (from_each on (xs ++ ys)) h) (from_left xs ys (each_right P (on x) (from_each on (xs ++ ys)) h))

  from_right : (xs ys : List Text) → Each P (from_each on (xs ++ ys)) → Each P (from_each on ys)
  from_right [] ys h = h
  from_right (x ∷ xs) ys h = from_right xs ys (each_right P (on x) (from_each on (xs ++ ys)) h)

  read_followed : (fields : Fields) (key : Text) (handle : Option Text) → Each P (from_each on (links_of (fields key) ++ links_under fields handle)) → Each P (from_each on (links_of (fields (unwrap_or handle key))))
  read_followed fields key None h = from_left (links_of (fields key)) [] h
  read_followed fields key (Some other) h = from_right (links_of (fields key)) (links_of (fields other)) h

-- ---- a field, where the parts below it stand only where the reach does

-- what holds of each id stood at, and of each pointer given
abbrev pub Holds : (Text → Type 0) → (Issued → Type 0) → Trace → Type 0
Holds P J t = Each P t.seen × Each J t.issued

holds_joined : (P : Text → Type 0) (J : Issued → Type 0) (s t : Trace) → Holds P J s → Holds P J t → Holds P J (join_traces s t)
holds_joined P J s t a b = (each_append P s.seen t.seen a.0 b.0, each_append J s.issued t.issued a.1 b.1)

kept_null : (P : Text → Type 0) (J : Issued → Type 0) (value : Plain) → Holds P J (null_alone value).1
kept_null P J Null = (tt, tt)
kept_null P J (Truth b) = (tt, tt)
kept_null P J (Int z) = (tt, tt)
kept_null P J (Words s) = (tt, tt)
kept_null P J (Listed ts) = (tt, tt)
kept_null P J (Object ms) = (tt, tt)

kept_leaf : (P : Text → Type 0) (J : Issued → Type 0) (field : Option Field) → Holds P J (leaf_at field).1
kept_leaf P J None = (tt, tt)
kept_leaf P J (Some (Leaf value)) = (tt, tt)
kept_leaf P J (Some (Link id)) = (tt, tt)
kept_leaf P J (Some (Links ids)) = (tt, tt)

kept_look : (P : Text → Type 0) (J : Issued → Type 0) (form : Form) (id key : Text) → Holds P J (looks_at form id key)
kept_look P J typename id key = (tt, tt)
kept_look P J leaf id key = (tt, tt)
kept_look P J (one b) id key = (tt, tt)
kept_look P J (many b) id key = (tt, tt)

module _ {F : Type 0} (P : Text → Type 0) (J : Issued → Type 0) (next : Next F) (fs : List F) where
  module _ (types : List Text) (on : Text → List Text) (below : (id : Text) → Each P (on id) → Holds P J (next types fs id).1) where
    kept_one : (field : Option Field) → Each P (from_each on (links_of field)) → Holds P J (one_at next types fs field).1
    kept_one None h = (tt, tt)
    kept_one (Some (Leaf value)) h = kept_null P J value
    kept_one (Some (Link id)) h = below id (each_left P (on id) [] h)
    kept_one (Some (Links ids)) h = (tt, tt)

    kept_elements : (es : List (Option Text)) → Each P (from_each on (some_ids es)) → Holds P J (elements_at next types fs es).1
    kept_elements [] h = (tt, tt)
    kept_elements (None ∷ es) h = kept_elements es h
    kept_elements (Some id ∷ es) h =
        holds_joined P J (next types fs id).1 (elements_at next types fs es).1
        (below id (each_left P (on id) (from_each on (some_ids es)) h)) (kept_elements es (each_right P (on id) (from_each on (some_ids es)) h))

    kept_many : (field : Option Field) → Each P (from_each on (links_of field)) → Holds P J (many_at next types fs field).1
    kept_many None h = (tt, tt)
    kept_many (Some (Leaf value)) h = kept_null P J value
    kept_many (Some (Link id)) h = (tt, tt)
    kept_many (Some (Links ids)) h = kept_elements ids h

  kept_value : (onward : List Text → Text → List Text) → ((types : List Text) (id : Text) → Each P (onward types id) → Holds P J (next types fs id).1)
      → (T : Text) (form : Form) (field : Option Field) → Each P (from_each (onward (types_of form)) (links_of field)) → Holds P J (value_at next T fs form field).1
  kept_value onward below T typename field h = (tt, tt)
  kept_value onward below T leaf field h = kept_leaf P J field
  kept_value onward below T (one b) field h = kept_one b.types (onward b.types) (below b.types) field h
  kept_value onward below T (many b) field h = kept_many b.types (onward b.types) (below b.types) field h

-- ---- pointers and fields of one record

module _ {F : Type 0} (P : Text → Type 0) (J : Issued → Type 0) (next : Next F) where
  -- of what a pointer's body meets, and of the pointer
  abbrev HoldsAt : Text → Text → Pointer F → Type 0
  HoldsAt T id p = Holds P J (next (T ∷ []) (p.body ∷ []) id).1 × J (record { fragment = p.fragment; id = id; scope = p.scope })

  kept_pointer : (T id : Text) (p : Pointer F) (inline : Bool) → HoldsAt T id p → Holds P J (pointer_at next T id p inline).1
  kept_pointer T id p false h = (tt, (h.1, tt))
  kept_pointer T id p true h = (h.0.0, (h.1, h.0.1))

  kept_pointers : (T id : Text) (ps : List (Pointer F)) → Each (HoldsAt T id) ps → Holds P J (pointers_at next T id ps).1
  kept_pointers T id [] h = (tt, tt)
  kept_pointers T id (p ∷ ps) h =
      holds_joined P J (pointer_at next T id p p.inline).1 (pointers_at next T id ps).1 (kept_pointer T id p p.inline h.0) (kept_pointers T id ps h.1)

  kept_fields : (T id : Text) (fields : Fields) (end : Shown × Trace) (groups : List (Group F)) → Holds P J end.1 → Each (λ g. Holds P J (group_at next T fields g).1) groups
      → Holds P J (fields_at next T id fields end groups).1
  kept_fields T id fields end [] before h = before
  kept_fields T id fields end (g ∷ groups) before h =
      let look = looks_at g.first.ask.form id (read_key g.first.ask) in
      let value = (group_at next T fields g).1 in
      holds_joined P J (join_traces look value) (fields_at next T id fields end groups).1
      (holds_joined P J look value (kept_look P J g.first.ask.form id (read_key g.first.ask)) h.0)
      (kept_fields T id fields end groups before h.1)

-- ---- the reach below the fields of one record

module _ {F : Type 0} (P : Text → Type 0) (next : Onward F) (fields : Fields) where
  reach_of_field : (fs : List F) (us : List Ask) (a : Ask) → Among a us → Each P (reach_asked next fields fs us) → Each P (from_each (next (types_of a.form) fs) (links_followed fields a))
  reach_of_field fs [] a h all = absurd h
  reach_of_field fs (u ∷ us) a (inl e) all =
      subst (λ b. Each P (from_each (next (types_of b.form) fs) (links_followed fields b))) e (each_left P (from_each (next (types_of u.form) fs) (links_followed fields u)) (reach_asked next fields fs us) all)
  reach_of_field fs (u ∷ us) a (inr h) all =
      reach_of_field fs us a h (each_right P (from_each (next (types_of u.form) fs) (links_followed fields u)) (reach_asked next fields fs us) all)

  abbrev ReachIn : Option (Group F) → Type 0
  ReachIn None = Unit {0}
  ReachIn (Some g) = Each P (reach_asked next fields (parts g) (asks g))

  reach_in : (response : Text) (groups : List (Group F)) → Each P (reach_groups next fields groups) → ReachIn (group_for response groups)
  reach_in response [] h = tt
  reach_in response (g ∷ groups) h =
      let here = reach_asked next fields (parts g) (asks g) in
      elim (bytes_eq g.first.ask.response response) as (λ b. ReachIn (cond b (Some g) (group_for response groups))) [
        | true ↦ each_left P here (reach_groups next fields groups) h
        | false ↦ reach_in response groups (each_right P here (reach_groups next fields groups) h)
      ]

-- ---- the masked collection gives fields of the whole one

-- Deep holds of parts that are so deep, all their spreads entered; Tied of a pointer whose body is that of its fragment and
-- scope.
module _ {F : Type 0} (masked whole : Collect F) (Deep : ℕ → F → Type 0) (Tied : Pointer F → Type 0) where
  -- what a part gives as a whole, parts give together
  abbrev pub SubAt : Text → List F → F → Type 0
  SubAt T gs f = (x : Asked F) → Among x (asked_of (whole T f)) → Among x (asked_of (collect_all whole T gs))

  abbrev GoodPointer : ℕ → Text → List F → Pointer F → Type 0
  GoodPointer n T gs p = SubAt T gs p.body × (Deep n p.body × Tied p)

  abbrev Good : ℕ → Text → List F → Item F → Type 0
  Good n T gs (asked a) = Among a (asked_of (collect_all whole T gs)) × Deep n a.part
  Good n T gs (pointed p) = GoodPointer n T gs p

  good_item : (n : ℕ) (T : Text) (gs : List F) (f : F) → SubAt T gs f → (x : Item F) → Covered masked whole Deep Tied n T f x → Good n T gs x
  good_item n T gs f sub (asked a) h = (sub a h.0, h.1)
  good_item n T gs f sub (pointed p) h = ((λ x here. sub x (h.0 x here)), h.1)

  good_items : Covers masked whole Deep Tied → (n : ℕ) (T : Text) (gs fs : List F) → Each (SubAt T gs) fs → Each (Deep (suc n)) fs → Each (Good n T gs) (collect_all masked T fs)
  good_items covered n T gs [] h deep = tt
  good_items covered n T gs (f ∷ fs) h deep =
      each_append (Good n T gs) (masked T f) (collect_all masked T fs) (each_so (Covered masked whole Deep Tied n T f) (Good n T gs) (masked T f) (good_item n T gs f h.0) (covered n T f deep.0)) (good_items covered n T gs fs h.1 deep.1)

  abbrev GoodAsked : ℕ → Text → List F → Asked F → Type 0
  GoodAsked n T gs a = Among a (asked_of (collect_all whole T gs)) × Deep n a.part

  good_asked : (n : ℕ) (T : Text) (gs : List F) (items : List (Item F)) → Each (Good n T gs) items → Each (GoodAsked n T gs) (asked_of items)
  good_asked n T gs [] h = tt
  good_asked n T gs (asked a ∷ items) h = (h.0, good_asked n T gs items h.1)
  good_asked n T gs (pointed p ∷ items) h = good_asked n T gs items h.1

  each_without : (Q : Pointer F → Type 0) (name : Text) (ps : List (Pointer F)) → Each Q ps → Each Q (without name ps)
  each_without Q name [] h = tt
  each_without Q name (p ∷ ps) h =
      elim (bytes_eq p.fragment name) as (λ b. Each Q (cond b (without name ps) (p ∷ without name ps))) [ true ↦ each_without Q name ps h.1 | false ↦ (h.0, each_without Q name ps h.1) ]

  good_pointers : (n : ℕ) (T : Text) (gs : List F) (items : List (Item F)) → Each (Good n T gs) items → Each (GoodPointer n T gs) (pointers items)
  good_pointers n T gs [] h = tt
  good_pointers n T gs (asked a ∷ items) h = good_pointers n T gs items h.1
  good_pointers n T gs (pointed p ∷ items) h = (h.0, each_without (GoodPointer n T gs) p.fragment (pointers items) (good_pointers n T gs items h.1))

  sub_parts : (T : Text) (g : Group F) (us : List (Asked F)) → Each (λ x. Among x (members g)) us → Each (SubAt T (parts g)) (map (λ a. a.part) us)
  sub_parts T g [] h = tt
  sub_parts T g (u ∷ us) h = ((λ x here. among_all whole T u.part (parts g) x (among_map (λ a. a.part) u (members g) h.0) here), sub_parts T g us h.1)

  deep_parts : (n : ℕ) (us : List (Asked F)) → Each (λ a. Deep n a.part) us → Each (Deep n) (map (λ a. a.part) us)
  deep_parts n [] h = tt
  deep_parts n (u ∷ us) h = (h.0, deep_parts n us h.1)

  -- ---- one step of the walks

  module _ (P : Text → Type 0) (J : Issued → Type 0) (covered : Covers masked whole Deep Tied) (n : ℕ) (next : Next F) (onward : Onward F)
      (below : (types : List Text) (fs gs : List F) (id : Text) → ((T : Text) → Each (SubAt T gs) fs) → Each (Deep n) fs → Each P (onward types gs id) → Holds P J (next types fs id).1) where
    -- each field of a group is among the whole's of its response key
    abbrev SeatedDeep : List (Group F) → Asked F → Type 0
    SeatedDeep hs a = Seated hs a × Deep n a.part

    kept_group : (T : Text) (fields : Fields) (g : Group F) (o : Option (Group F)) → Each (SeatedIn o) (members g) → Each (λ a. Deep n a.part) (members g) → ReachIn P onward fields o → Holds P J (group_at next T fields g).1
    kept_group T fields g None seats deep reach = absurd seats.0
    kept_group T fields g (Some h) seats deep reach =
        kept_value P J next (parts g) (λ types id. onward types (parts h) id) (λ types id r. below types (parts g) (parts h) id (λ U. sub_parts U h (members g) seats) (deep_parts n (members g) deep) r)
        T g.first.ask.form (fields (read_key g.first.ask))
        (read_followed P (onward (types_of g.first.ask.form) (parts h)) fields (key_of g.first.ask) (handle_of g.first.ask)
        (reach_of_field P onward fields (parts h) (asks h) g.first.ask (among_map (λ a. a.ask) g.first (members h) seats.0) reach))

    seats_of : (hs : List (Group F)) (g : Group F) → Fits (SeatedDeep hs) g → Each (SeatedIn (group_for g.first.ask.response hs)) (members g)
    seats_of hs g fits =
        (fits.0.0, each_so (λ a. (g.first.ask.response ≡ a.ask.response) × SeatedDeep hs a) (SeatedIn (group_for g.first.ask.response hs)) g.others (λ a e. subst (λ k. SeatedIn (group_for k hs) a) (sym e.0) e.1.0) fits.1)

    deep_of : (hs : List (Group F)) (g : Group F) → Fits (SeatedDeep hs) g → Each (λ a. Deep n a.part) (members g)
    deep_of hs g fits = (fits.0.1, each_so (λ a. (g.first.ask.response ≡ a.ask.response) × SeatedDeep hs a) (λ a. Deep n a.part) g.others (λ a e. e.1.1) fits.1)

    kept_object : (owner T : Text) (fs gs : List F) (id : Text) (fields : Fields) → Each (SubAt T gs) fs → Each (Deep (suc n)) fs
        → ((p : Pointer F) → GoodPointer n T gs p → HoldsAt P J next T id p)
        → Each P (reach_groups onward fields (groups_of (collect_all whole T gs))) → Holds P J (object_at masked owner next T fs id fields).1
    kept_object owner T fs gs id fields sub deep inner reach =
        let items = collect_all masked T fs in
        let hs = groups_of (collect_all whole T gs) in
        let good = good_items covered n T gs fs sub deep in
        let seats = each_so (GoodAsked n T gs) (SeatedDeep hs) (asked_of items) (λ a h. (grouped_seats (collect_all whole T gs) a h.0, h.1)) (good_asked n T gs items good) in
        kept_fields P J next T id fields (marks owner id (pointers_at next T id (pointers items))) (groups_of items)
        (kept_pointers P J next T id (pointers items) (each_so (GoodPointer n T gs) (HoldsAt P J next T id) (pointers items) inner (good_pointers n T gs items good)))
        (each_so (Fits (SeatedDeep hs)) (λ g. Holds P J (group_at next T fields g).1) (groups_of items)
        (λ g fits. kept_group T fields g (group_for g.first.ask.response hs) (seats_of hs g fits) (deep_of hs g fits) (reach_in P onward fields g.first.ask.response hs reach))
        (grouped_fits (SeatedDeep hs) items seats))

    kept_possible : (id : Text) (possible in_reach : Bool) → (possible ≡ true → in_reach ≡ true) → (r : Shown × Trace) (ids : List Text) → P id → Each P (cond in_reach ids []) → (possible ≡ true → Each P ids → Holds P J r.1)
        → Holds P J (where_possible possible id r).1
    kept_possible id false in_reach so r ids here h object = ((here, tt), tt)
    kept_possible id true in_reach so r ids here h object = holds_joined P J (trace_at id) r.1 ((here, tt), tt) (object refl (subst (λ b. Each P (cond b ids [])) (so refl) h))

    kept_stand : (typed : Text → Text) (owner : Text) (types reached : List Text) (fs gs : List F) (id : Text) (fields : Fields) (s : Standing)
        → ((name : Text) → s ≡ lives name → has_text types (typed name) ≡ true → has_text reached (typed name) ≡ true)
        → ((name : Text) → s ≡ lives name → Each (SubAt (typed name) gs) fs) → Each (Deep (suc n)) fs
        → ((name : Text) → s ≡ lives name → has_text reached (typed name) ≡ true → (p : Pointer F) → GoodPointer n (typed name) gs p → HoldsAt P J next (typed name) id p)
        → P id → Each P (reach_stand whole typed onward reached gs s fields) → Holds P J (stand_at masked typed owner next types fs id s fields).1
    kept_stand typed owner types reached fs gs id fields absent within sub deep inner here reach = ((here, tt), tt)
    kept_stand typed owner types reached fs gs id fields gone within sub deep inner here reach = ((here, tt), tt)
    kept_stand typed owner types reached fs gs id fields (lives name) within sub deep inner here reach =
        let T = typed name in
        kept_possible id (has_text types T) (has_text reached T) (within name refl) (object_at masked owner next T fs id fields) (reach_groups onward fields (groups_of (collect_all whole T gs))) here reach
        (λ yes r. kept_object owner T fs gs id fields (sub name refl) deep (inner name refl (within name refl yes)) r)

  -- ---- the laws

  abbrev name_of : Standing → Text
  name_of absent = []
  name_of gone = []
  name_of (lives name) = name

  module _ (covered : Covers masked whole Deep Tied) (typed : Text → Text) (owner : Text) (m : Slots) where
    reach_begins : (P : Text → Type 0) (depth : ℕ) (types : List Text) (fs : List F) (id : Text) → Each P (reach_at whole typed m depth types fs id) → P id
    reach_begins P zero types fs id h = h.0
    reach_begins P (suc depth) types fs id h = h.0

    -- what holds of a tied pointer that stands at an id from which a reach covers its body, at most so deep
    abbrev pub Issues : ℕ → (Text → Type 0) → (Issued → Type 0) → Type 0
    Issues most P J = (depth deeper : ℕ) (reached : List Text) (gs : List F) (id name : Text) (p : Pointer F) → depth ≤ deeper → depth ≤ most → standing_of (m id) ≡ lives name → has_text reached (typed name) ≡ true
        → SubAt (typed name) gs p.body → Deep depth p.body → Tied p → Each P (reach_at whole typed m deeper reached gs id) → J (record { fragment = p.fragment; id = id; scope = p.scope })

    -- what holds of each id of the reach holds of each id that a masked read stands at, and what holds of each pointer so
    -- covered holds of each that the read gives, where its fields are among those
    -- of the reach, and the record's type is possible for the reach where it is for the read
    pub kept : (most : ℕ) (P : Text → Type 0) (J : Issued → Type 0) → Issues most P J → (depth deeper : ℕ) → depth ≤ deeper → depth ≤ most → (types reached : List Text) (fs gs : List F) (id : Text)
        → ((name : Text) → standing_of (m id) ≡ lives name → has_text types (typed name) ≡ true → has_text reached (typed name) ≡ true)
        → ((name : Text) → standing_of (m id) ≡ lives name → Each (SubAt (typed name) gs) fs) → Each (Deep depth) fs
        → Each P (reach_at whole typed m deeper reached gs id) → Holds P J (read_at masked typed owner m depth types fs id).1
    kept most P J issues zero deeper le short types reached fs gs id within sub deep reach = ((reach_begins P deeper reached gs id reach, tt), tt)
    kept most P J issues (suc depth) zero le short types reached fs gs id within sub deep reach = absurd (omega arith)
    kept most P J issues (suc depth) (suc deeper) le short types reached fs gs id within sub deep reach =
        kept_stand P J covered depth (read_at masked typed owner m depth) (reach_at whole typed m deeper)
        (λ types fs gs id all less r. kept most P J issues depth deeper (omega arith) (omega arith) types types fs gs id (λ name is h. h) (λ name is. all (typed name)) less r)
        typed owner types reached fs gs id (field_of (m id)) (standing_of (m id)) within sub deep
        (λ name is possible p s. (
          kept most P J issues depth (suc deeper) (omega arith) (omega arith) (typed name ∷ []) reached (p.body ∷ []) gs id
              (λ other same h. subst (λ k. has_text reached (typed k) ≡ true) (ap name_of (sym is ∙ same)) possible)
              (λ other same. (subst (λ k. SubAt (typed k) gs p.body) (ap name_of (sym is ∙ same)) s.0, tt)) (s.1.0, tt) reach,
          issues depth (suc deeper) reached gs id name p (omega arith) (omega arith) is possible s.0 s.1.0 s.1.1 reach,
        ))
        reach.0 reach.1

    -- a masked read stays the same in every map with the same slots at the ids of a reach that covers it
    pub retained_part : (n : Slots) (depth deeper : ℕ) → depth ≤ deeper → (types reached : List Text) (fs gs : List F) (id : Text)
        → ((name : Text) → standing_of (m id) ≡ lives name → has_text types (typed name) ≡ true → has_text reached (typed name) ≡ true)
        → ((name : Text) → standing_of (m id) ≡ lives name → Each (SubAt (typed name) gs) fs) → Each (Deep depth) fs
        → Each (λ j. m j ≡ n j) (reach_at whole typed m deeper reached gs id)
        → read_at masked typed owner n depth types fs id ≡ read_at masked typed owner m depth types fs id
    retained_part n depth deeper le types reached fs gs id within sub deep reach =
        read_same_seen masked typed owner m n depth types fs id
        (kept depth (λ j. m j ≡ n j) (λ i. Unit {0}) (λ depth deeper reached gs id name p le short is possible s deep tied reach. tt) depth deeper le (omega arith) types reached fs gs id within sub deep reach).0

    -- so does the read of the parts of the whole reach
    pub retained : (n : Slots) (depth deeper : ℕ) → depth ≤ deeper → (types : List Text) (fs : List F) (id : Text) → Each (Deep depth) fs
        → Each (λ j. m j ≡ n j) (reach_at whole typed m deeper types fs id)
        → read_at masked typed owner n depth types fs id ≡ read_at masked typed owner m depth types fs id
    retained n depth deeper le types fs id deep reach =
        retained_part n depth deeper le types types fs fs id (λ name is h. h)
        (λ name is. each_among (SubAt (typed name) fs) fs (λ f h x here. among_all whole (typed name) f fs x h here)) deep reach

    -- ---- pointers, and in turn those of their reads

    -- a read of the parts of a body of some fragment and scope, at most `most` records down
    module _ (most : ℕ) (types_for : Text → List Text) (body_of : Text → Arguments → F) (tied : (p : Pointer F) → Tied p → p.body ≡ body_of p.fragment p.scope)
        (enough : (n : ℕ) → n ≤ most → (types : List Text) (f : F) (id : Text) → Deep n f → read_at masked typed owner m most types (f ∷ []) id ≡ read_at masked typed owner m n types (f ∷ []) id) where
      abbrev pub pointer_read : Issued → Found
      pointer_read i = read_at masked typed owner m most (types_for i.fragment) (body_of i.fragment i.scope ∷ []) i.id

      -- what holds of each id holds of those of a pointer's read, and in turn of those of the reads of its pointers, n turns
      abbrev pub Turns : (Text → Type 0) → ℕ → Issued → Type 0
      Turns P zero i = Unit {0}
      Turns P (suc n) i = Holds P (Turns P n) (pointer_read i).1

      turns_issue : (P : Text → Type 0) (n : ℕ) → Issues most P (Turns P n)
      turns_issue P zero depth deeper reached gs id name p le short is possible sub deep tie reach = tt
      turns_issue P (suc n) depth deeper reached gs id name p le short is possible sub deep tie reach =
          let body = tied p tie in
          let here : Holds P (Turns P n) (read_at masked typed owner m depth (types_for p.fragment) (p.body ∷ []) id).1
          = kept most P (Turns P n) (turns_issue P n) depth deeper le short (types_for p.fragment) reached (p.body ∷ []) gs id
          (λ other same h. subst (λ k. has_text reached (typed k) ≡ true) (ap name_of (sym is ∙ same)) possible)
          (λ other same. (subst (λ k. SubAt (typed k) gs p.body) (ap name_of (sym is ∙ same)) sub, tt)) (deep, tt) reach in
          subst (λ f. Holds P (Turns P n) (read_at masked typed owner m most (types_for p.fragment) (f ∷ []) id).1) body
          (subst (λ r. Holds P (Turns P n) r.1) (sym (enough depth short (types_for p.fragment) p.body id deep)) here)

      -- what holds of each id of the reach holds of each id that a masked read stands at, and of each that the reads of its
      -- pointers, and in turn of theirs, stand at
      pub kept_in_turn : (P : Text → Type 0) (n depth deeper : ℕ) → depth ≤ deeper → depth ≤ most → (types reached : List Text) (fs gs : List F) (id : Text)
          → ((name : Text) → standing_of (m id) ≡ lives name → has_text types (typed name) ≡ true → has_text reached (typed name) ≡ true)
          → ((name : Text) → standing_of (m id) ≡ lives name → Each (SubAt (typed name) gs) fs) → Each (Deep depth) fs
          → Each P (reach_at whole typed m deeper reached gs id) → Holds P (Turns P n) (read_at masked typed owner m depth types fs id).1
      kept_in_turn P n depth deeper le short types reached fs gs id within sub deep reach =
          kept most P (Turns P n) (turns_issue P n) depth deeper le short types reached fs gs id within sub deep reach

      -- so it holds of each id that the reads of all these pointers stand at
      turns_each : (P : Text → Type 0) (n : ℕ) (is : List Issued) → Each (Turns P (suc n)) is → Each (Turns P n) (pointers_of_reads pointer_read is)
      turns_each P n [] h = tt
      turns_each P n (i ∷ is) h = each_append (Turns P n) (pointer_read i).1.issued (pointers_of_reads pointer_read is) h.0.1 (turns_each P n is h.1)

      pub all_in_turn : (P : Text → Type 0) (n : ℕ) (is : List Issued) → Each (Turns P (suc n)) is → Each (λ i. Each P (pointer_read i).1.seen) (pointers_in_turn pointer_read n is)
      all_in_turn P zero is h = each_so (Turns P 1) (λ i. Each P (pointer_read i).1.seen) is (λ i t. t.0) h
      all_in_turn P (suc n) is h =
          each_append (λ i. Each P (pointer_read i).1.seen) is (pointers_in_turn pointer_read n (pointers_of_reads pointer_read is))
          (each_so (Turns P (suc (suc n))) (λ i. Each P (pointer_read i).1.seen) is (λ i t. t.0) h)
          (all_in_turn P n (pointers_of_reads pointer_read is) (turns_each P (suc n) is h))
