-- The object types that a type may be, from the groups that are made of the definitions.
use Rattle.std.proofs.Common.{◌≡◌, ℕ, zero, suc, nat_eq, ◌+◌, ◌<◌, inl, inr, Bool, true, false, true≢false, cond, ◌&&◌, ◌||◌, List, [], ◌∷◌, ◌++◌, length, get_or, Option, Some, None, is_some, option_map, bytes_eq, refl, ap, sym, subst, ◌∙◌, arith}
use Rattle.std.proofs.lemmas.Bool.{cases_lt}
use Rattle.std.proofs.lemmas.Slice.Eq.{bytes_eq-Decides}
use Rattle.std.specs.List.{filter, filter_map, cons_option, list_any}
use Rattle.gql_ast.proofs.gql_plain_laws.Booleans.{and_false}
use Rattle.gql_ast.proofs.gql_plain_laws.SortedTexts.{same_texts, AreInOrder-sorted_texts, has_text-sorted_texts}
use Rattle.gql_graph.specs.gql_plain.Order.{has_text, sorted_texts}
use Rattle.gql_ast.specs.declared.schema.SchemaDef.{SchemaDef}
use Rattle.gql_ast.specs.declared.schema.SchemaDef.TheVariants as S
use Rattle.schema_tables.proofs.Finding.{finds, found_passes, missing, suc_of}
use Rattle.schema_tables.proofs.Named.{type_named-first}
use Rattle.schema_tables.specs.declared.kind.TypeKind.{TypeKind}
use Rattle.schema_tables.specs.Objects.{names_object, is_place, is_among, reaches, reaches_named, adds, members_at}
use Rattle.schema_tables.specs.Parts.{is_type}
use Rattle.schema_tables.specs.Places.{first_at, first_that}
use Rattle.schema_tables.specs.Types.{Text, Defs, type_named, type_of, is_of, object_name, interfaces_of, interfaces_named, union_members_of, union_members_named, implements, applies, possible}

later : (r : Option ℕ) → is_some (option_map suc r) ≡ is_some r
later None = refl
later (Some k) = refl

-- ---- truth values

or-false : (a : Bool) → (a || false) ≡ a
or-false true = refl
or-false false = refl

and-true : (a : Bool) → (a && true) ≡ a
and-true true = refl
and-true false = refl

pub or_assoc : (a b c : Bool) → ((a || b) || c) ≡ (a || (b || c))
or_assoc true b c = refl
or_assoc false b c = refl

-- ---- texts in lists

pub has_text-append : (xs ys : List Text) (t : Text) → has_text (xs ++ ys) t ≡ (has_text xs t || has_text ys t)
has_text-append [] ys t = refl
has_text-append (x ∷ xs) ys t = ap (λ b. bytes_eq x t || b) (has_text-append xs ys t) ∙ sym (or_assoc (bytes_eq x t) (has_text xs t) (has_text ys t))

has_text-filter : (p : Text → Bool) (xs : List Text) (t : Text) → has_text (filter p xs) t ≡ (has_text xs t && p t)
has_text-filter p [] t = refl
has_text-filter p (x ∷ xs) t = on (has_text-filter p xs t) (p x) refl (bytes_eq x t) refl
  where
    on : has_text (filter p xs) t ≡ (has_text xs t && p t) → (a : Bool) → p x ≡ a → (b : Bool) → bytes_eq x t ≡ b
        → has_text (cond a (x ∷ filter p xs) (filter p xs)) t ≡ ((b || has_text xs t) && p t)
    on rest true e true f =
        let same : x ≡ t = (bytes_eq-Decides x t).0 f in
        ap (λ b. b || has_text (filter p xs) t) f ∙ sym (ap p (sym same) ∙ e)
    on rest true e false f = ap (λ b. b || has_text (filter p xs) t) f ∙ rest
    on rest false e true f =
        let same : x ≡ t = (bytes_eq-Decides x t).0 f in
        let no_t : p t ≡ false = ap p (sym same) ∙ e in
        rest ∙ ap (λ b. has_text xs t && b) no_t ∙ and_false (has_text xs t) ∙ sym no_t
    on rest false e false f = rest

sorted_same : (xs ys : List Text) → ((t : Text) → has_text xs t ≡ has_text ys t) → sorted_texts xs ≡ sorted_texts ys
sorted_same xs ys same =
    same_texts (sorted_texts xs) (sorted_texts ys) (AreInOrder-sorted_texts xs) (AreInOrder-sorted_texts ys)
    (λ t. has_text-sorted_texts xs t ∙ same t ∙ sym (has_text-sorted_texts ys t))

-- ---- places of types

nat_eq-itself : (n : ℕ) → nat_eq n n ≡ true
nat_eq-itself n = grind arith

same_type : (t : Option (Text × TypeKind)) (m n : Text) → is_of m t ≡ true → is_of n t ≡ true → m ≡ n
same_type None m n a b = absurd (true≢false (sym a))
same_type (Some x) m n a b = sym ((bytes_eq-Decides x.0 m).0 a) ∙ (bytes_eq-Decides x.0 n).0 b

passes_at : (defs : Defs) (n : Text) (at : ℕ) (d : SchemaDef) → first_at (is_type n) defs ≡ Some at → is_type n (get_or defs at d) ≡ true
passes_at defs n at d e = found_passes (is_type n) defs (get_or defs at d) (finds (is_type n) defs at d e)

one_place : (defs : Defs) (m n : Text) (at : ℕ) → first_at (is_type m) defs ≡ Some at → first_at (is_type n) defs ≡ Some at → m ≡ n
one_place defs m n at a b =
    same_type (type_of (get_or defs at (S.Schema [] []))) m n (passes_at defs m at (S.Schema [] []) a) (passes_at defs n at (S.Schema [] []) b)

place_is : (defs : Defs) (n : Text) (at : ℕ) (here : first_at (is_type n) defs ≡ Some at) (m : Text) → is_place (first_at (is_type m) defs) at ≡ bytes_eq m n
place_is defs n at here m = on (bytes_eq m n) refl (first_at (is_type m) defs) refl
  where
    on : (b : Bool) → bytes_eq m n ≡ b → (r : Option ℕ) → first_at (is_type m) defs ≡ r → is_place r at ≡ b
    on true e r f =
        let same : m ≡ n = (bytes_eq-Decides m n).0 e in
        ap (λ x. is_place x at) (sym f ∙ ap (λ t. first_at (is_type t) defs) same ∙ here) ∙ nat_eq-itself at
    on false e None f = refl
    on false e (Some k) f = apart (nat_eq k at) refl
      where
        apart : (b : Bool) → nat_eq k at ≡ b → b ≡ false
        apart true g =
            let there : k ≡ at = grind arith in
            absurd (true≢false (sym ((bytes_eq-Decides m n).1 (one_place defs m n at (f ∙ ap Some there) here)) ∙ e))
        apart false g = refl

among_is : (defs : Defs) (n : Text) (at : ℕ) (here : first_at (is_type n) defs ≡ Some at) (ms : List Text) → is_among defs ms at ≡ has_text ms n
among_is defs n at here [] = refl
among_is defs n at here (m ∷ ms) = ap (λ b. b || is_among defs ms at) (place_is defs n at here m) ∙ ap (λ b. bytes_eq m n || b) (among_is defs n at here ms)

reaches_is : (defs : Defs) (n : Text) (at : ℕ) (here : first_at (is_type n) defs ≡ Some at) (m : Text) → reaches defs m at ≡ (bytes_eq m n || implements defs m n)
reaches_is defs n at here m =
    ap (λ b. b || is_among defs (interfaces_named (type_named defs m)) at) (place_is defs n at here m)
    ∙ ap (λ b. bytes_eq m n || b) (among_is defs n at here (interfaces_named (type_named defs m)))

-- ---- the groups

adds_one : (r : Text → Bool) (m t : Text) (b h : Bool) → bytes_eq m t ≡ b → ((r m && b) || (h && r t)) ≡ ((b || h) && r t)
adds_one r m t true h e =
    let same : m ≡ t = (bytes_eq-Decides m t).0 e in
    ap (λ x. (x && true) || (h && r t)) (ap r same) ∙ on (r t) h
  where
    on : (a c : Bool) → ((a && true) || (c && a)) ≡ a
    on true c = refl
    on false c = and_false c
adds_one r m t false h e = ap (λ x. x || (h && r t)) (and_false (r m))

adds_all : (defs : Defs) (at : ℕ) (t : Text) (ds : List SchemaDef) → list_any (adds defs at t) ds ≡ (has_text (filter_map object_name ds) t && reaches defs t at)
adds_all defs at t [] = refl
adds_all defs at t (d ∷ ds) = on (object_name d) (adds_all defs at t ds)
  where
    on : (o : Option Text) → list_any (adds defs at t) ds ≡ (has_text (filter_map object_name ds) t && reaches defs t at)
        → (reaches_named defs o at t || list_any (adds defs at t) ds) ≡ (has_text (cons_option o (filter_map object_name ds)) t && reaches defs t at)
    on None rest = rest
    on (Some m) rest =
        ap (λ b. (reaches defs m at && bytes_eq m t) || b) rest
        ∙ adds_one (λ x. reaches defs x at) m t (bytes_eq m t) (has_text (filter_map object_name ds) t) refl

objects_named : (defs : Defs) (t : Text) → is_some (first_at (names_object t) defs) ≡ has_text (filter_map object_name defs) t
objects_named [] t = refl
objects_named (S.Schema ds rs ∷ defs) t = later (first_at (names_object t) defs) ∙ objects_named defs t
objects_named (S.Scalar m ds ∷ defs) t = later (first_at (names_object t) defs) ∙ objects_named defs t
objects_named (S.Object m js ds gs ∷ defs) t = on (bytes_eq m t) (later (first_at (names_object t) defs) ∙ objects_named defs t)
  where
    on : (b : Bool) → is_some (option_map suc (first_at (names_object t) defs)) ≡ has_text (filter_map object_name defs) t
        → is_some (cond b (Some 0) (option_map suc (first_at (names_object t) defs))) ≡ (b || has_text (filter_map object_name defs) t)
    on true rest = refl
    on false rest = rest
objects_named (S.Interface m js ds gs ∷ defs) t = later (first_at (names_object t) defs) ∙ objects_named defs t
objects_named (S.Union m ds ns ∷ defs) t = later (first_at (names_object t) defs) ∙ objects_named defs t
objects_named (S.Enum m ds vs ∷ defs) t = later (first_at (names_object t) defs) ∙ objects_named defs t
objects_named (S.Input m ds gs ∷ defs) t = later (first_at (names_object t) defs) ∙ objects_named defs t
objects_named (S.Directive m xs r ls ∷ defs) t = later (first_at (names_object t) defs) ∙ objects_named defs t

members_first : (passes : SchemaDef → Bool) (defs : List SchemaDef) (at : ℕ) → first_at passes defs ≡ Some at → members_at defs at ≡ union_members_named (first_that passes defs)
members_first passes [] at e = cc
members_first passes (d ∷ ds) at e = on (λ k. members_first passes ds k) (passes d) e
  where
    on : ((k : ℕ) → first_at passes ds ≡ Some k → members_at ds k ≡ union_members_named (first_that passes ds))
        → (b : Bool) → cond b (Some 0) (option_map suc (first_at passes ds)) ≡ Some at → members_at (d ∷ ds) at ≡ union_members_named (cond b (Some d) (first_that passes ds))
    on rest true e =
        let here : 0 ≡ at = cc in
        let P : ℕ → Type 0 = λ k. members_at (d ∷ ds) k ≡ union_members_of d in
        subst P here refl
    on rest false e =
        let later = suc_of (first_at passes ds) at e in
        let P : ℕ → Type 0 = λ k. members_at (d ∷ ds) k ≡ union_members_named (first_that passes ds) in
        subst P later.2 (rest later.0 later.1)

regroup : (h r m : Bool) → ((h && r) || (m && h)) ≡ (h && (r || m))
regroup true r m = ap (λ b. r || b) (and-true m)
regroup false r m = and_false m

-- a group and the object types that the union holds are the object types that the type may be
pub group_is : (defs : Defs) (n : Text) (at : ℕ) (group : List Text) (is_object : Text → Bool) → first_at (is_type n) defs ≡ Some at
    → ((t : Text) → has_text group t ≡ list_any (adds defs at t) defs) → ((t : Text) → is_object t ≡ is_some (first_at (names_object t) defs))
    → sorted_texts (group ++ filter is_object (members_at defs at)) ≡ possible defs n
group_is defs n at group is_object here grouped objects =
    sorted_same (group ++ filter is_object (members_at defs at)) (filter (λ o. applies defs o n) (filter_map object_name defs)) same
  where
    same : (t : Text) → has_text (group ++ filter is_object (members_at defs at)) t ≡ has_text (filter (λ o. applies defs o n) (filter_map object_name defs)) t
    same t =
        has_text-append group (filter is_object (members_at defs at)) t
        ∙ ap (λ b. b || has_text (filter is_object (members_at defs at)) t) (grouped t ∙ adds_all defs at t defs)
        ∙ ap (λ b. (has_text (filter_map object_name defs) t && reaches defs t at) || b) (has_text-filter is_object (members_at defs at) t)
        ∙ ap (λ b. (has_text (filter_map object_name defs) t && reaches defs t at) || (has_text (members_at defs at) t && b)) (objects t ∙ objects_named defs t)
        ∙ regroup (has_text (filter_map object_name defs) t) (reaches defs t at) (has_text (members_at defs at) t)
        ∙ ap (λ b. has_text (filter_map object_name defs) t && (b || has_text (members_at defs at) t)) (reaches_is defs n at here t)
        ∙ ap (λ ms. has_text (filter_map object_name defs) t && ((bytes_eq t n || implements defs t n) || has_text ms t))
        (members_first (is_type n) defs at here ∙ ap union_members_named (sym (type_named-first defs n)))
        ∙ sym (has_text-filter (λ o. applies defs o n) (filter_map object_name defs) t)

-- ---- one object type after another

pub or_both : (h p a e : Bool) → ((h || (p && e)) || (a && e)) ≡ (h || ((p || a) && e))
or_both true p a e = refl
or_both false true a true = refl
or_both false true a false = and_false a
or_both false false a e = refl

-- a type that is not defined reaches nothing
pub not_reached : (defs : Defs) (m : Text) (k : ℕ) → first_at (is_type m) defs ≡ None → reaches defs m k ≡ false
not_reached defs m k none =
    (λ i. is_place (none i) k || is_among defs (interfaces_named ((type_named-first defs m ∙ missing (is_type m) defs none) i)) k)

pub nothing_put : (h e : Bool) (defs : Defs) (m : Text) (k : ℕ) → first_at (is_type m) defs ≡ None → h ≡ (h || (reaches defs m k && e))
nothing_put h e defs m k none = sym (ap (λ r. h || (r && e)) (not_reached defs m k none) ∙ or-false h)

pub interfaces_first : (defs : Defs) (m : Text) (at : ℕ) (d : SchemaDef) → first_at (is_type m) defs ≡ Some at → d ≡ get_or defs at d → interfaces_named (type_named defs m) ≡ interfaces_of d
interfaces_first defs m at d e is = ap interfaces_named (type_named-first defs m ∙ finds (is_type m) defs at d e) ∙ ap interfaces_of (sym is)

pub members_here : (defs : List SchemaDef) (at : ℕ) (d : SchemaDef) → at < length defs → d ≡ get_or defs at d → union_members_of d ≡ members_at defs at
members_here [] at d low is = absurd (omega arith)
members_here (x ∷ xs) zero d low is = ap union_members_of is
members_here (x ∷ xs) (suc at) d low is = members_here xs at d (omega arith) is

at_end : (xs : List (List Text)) (y : List Text) (k : ℕ) → k ≡ length xs → get_or (xs ++ y ∷ []) k [] ≡ y
at_end [] y zero e = refl
at_end [] y (suc k) e = absurd (omega arith)
at_end (x ∷ xs) y zero e = absurd (omega arith)
at_end (x ∷ xs) y (suc k) e = at_end xs y k (omega arith)

before_end : (xs : List (List Text)) (y : List Text) (k : ℕ) → k < length xs → get_or (xs ++ y ∷ []) k [] ≡ get_or xs k []
before_end [] y k low = absurd (omega arith)
before_end (x ∷ xs) y zero low = refl
before_end (x ∷ xs) y (suc k) low = before_end xs y k (omega arith)

pub each_next : (f : ℕ → List Text) (xs zs : List (List Text)) (y : List Text) (at : ℕ) → length xs ≡ at → ((k : ℕ) → k < at → get_or xs k [] ≡ f k) → zs ≡ xs ++ y ∷ [] → y ≡ f at
    → (k : ℕ) → k < at + 1 → get_or zs k [] ≡ f k
each_next f xs zs y at size each new made k low = ap (λ l. get_or l k []) new ∙ elim (cases_lt k at) [
  | inl below ↦ before_end xs y k (omega arith) ∙ each k below
  | inr above ↦ let last : k ≡ at = omega arith in at_end xs y k (omega arith) ∙ made ∙ ap f (sym last)
]
