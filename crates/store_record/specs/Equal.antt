-- Whether two fields, or two records, are equal.
use Rattle.std.specs.Prelude.{◌≡◌, ◌&&◌, Bool, true, false, List, [], ◌∷◌, Option, Some, None}
use Rattle.std.proofs.Common.{refl, sym, ap, subst, true≢false, ◌∙◌}
use Rattle.std.proofs.lemmas.Slice.Eq.{bytes_eq-Decides}
use Rattle.std.specs.Bool.{Decides}
use Rattle.std.specs.Cmp.{IsEquivalence, decided}
use Rattle.std.specs.Cmp.Lexicographic.{pointwise, pointwise_decides}
use Rattle.std.specs.Option.{option_eq}
use Rattle.std.specs.Str.{bytes_eq}
use Rattle.gql_plain.specs.Equal.{tree_eq, tree_eq-Decides, links_eq}
use Rattle.gql_plain.specs.Shown.{tree_of}
use Rattle.gql_plain.specs.Tree.{Tree, null, truth, whole, text, list, object, Trees, no_trees, tree, trees_of, Members, no_members, member, members_of}
use Rattle.gql_plain.specs.declared.plain.Plain.{Plain}
use Rattle.gql_plain.specs.declared.plain.Plain.TheVariants as P
use Rattle.store_record.specs.Keys.{Text}
use Rattle.store_record.specs.declared.field.Field.{Field}
use Rattle.store_record.specs.declared.field.Field.TheVariants.{Leaf, Link, Links}
use Rattle.store_record.specs.declared.record.Record.{Record}

abbrev pub field_eq : Field → Field → Bool
field_eq (Leaf a) (Leaf b) = tree_eq (tree_of a) (tree_of b)
field_eq (Link a) (Link b) = bytes_eq a b
field_eq (Links a) (Links b) = links_eq a b
field_eq _ _ = false

-- the same key and an equal field
abbrev pub entry_eq : Text × Field → Text × Field → Bool
entry_eq a b = bytes_eq a.0 b.0 && field_eq a.1 b.1

abbrev pub fields_eq : List (Text × Field) → List (Text × Field) → Bool
fields_eq = pointwise entry_eq

-- the same type and equal fields
abbrev pub record_eq : Record → Record → Bool
record_eq a b = bytes_eq a.type_name b.type_name && fields_eq a.fields b.fields

-- ---- each decides `≡`

abbrev tree_list : Trees → List Tree
tree_list no_trees = []
tree_list (tree t ts) = t ∷ tree_list ts

abbrev pair_list : Members → List (Text × Tree)
pair_list no_members = []
pair_list (member k t ms) = (k, t) ∷ pair_list ms

tree_list-trees_of : (ts : List Tree) → tree_list (trees_of ts) ≡ ts
tree_list-trees_of [] = refl
tree_list-trees_of (t ∷ ts) = ap (λ more. t ∷ more) (tree_list-trees_of ts)

pair_list-members_of : (ms : List (Text × Tree)) → pair_list (members_of ms) ≡ ms
pair_list-members_of [] = refl
pair_list-members_of (m ∷ ms) = ap (λ more. m ∷ more) (pair_list-members_of ms)

-- the plain value of a tree
abbrev plain_from : Tree → Plain
plain_from null = P.Null
plain_from (truth b) = P.Bool b
plain_from (whole z) = P.Int z
plain_from (text s) = P.Text s
plain_from (list ts) = P.List (tree_list ts)
plain_from (object ms) = P.Tree (pair_list ms)

plain_from-tree_of : (p : Plain) → plain_from (tree_of p) ≡ p
plain_from-tree_of P.Null = refl
plain_from-tree_of (P.Bool b) = refl
plain_from-tree_of (P.Int z) = refl
plain_from-tree_of (P.Text s) = refl
plain_from-tree_of (P.List ts) = ap P.List (tree_list-trees_of ts)
plain_from-tree_of (P.Tree ms) = ap P.Tree (pair_list-members_of ms)

same_plain : (a b : Plain) → tree_of a ≡ tree_of b → a ≡ b
same_plain a b e = sym (plain_from-tree_of a) ∙ ap plain_from e ∙ plain_from-tree_of b

abbrev id_eq : Option Text → Option Text → Bool
id_eq = option_eq bytes_eq

id_eq-sound : (a b : Option Text) → id_eq a b ≡ true → a ≡ b
id_eq-sound None None h = refl
id_eq-sound None (Some t) h = absurd (true≢false (sym h))
id_eq-sound (Some s) None h = absurd (true≢false (sym h))
id_eq-sound (Some s) (Some t) h = ap Some ((bytes_eq-Decides s t).0 h)

id_eq-itself : (a : Option Text) → id_eq a a ≡ true
id_eq-itself None = refl
id_eq-itself (Some s) = (bytes_eq-Decides s s).1 refl

decides : {K : Type 0} (E : K → K → Bool) → ((x y : K) → E x y ≡ true → x ≡ y) → ((x : K) → E x x ≡ true) → (x y : K) → Decides (E x y) (x ≡ y)
decides E sound itself x y = (sound x y, λ p. subst (λ z. E x z ≡ true) p (itself x))

links_eq-Decides : (a b : List (Option Text)) → Decides (links_eq a b) (a ≡ b)
links_eq-Decides = pointwise_decides (decides id_eq id_eq-sound id_eq-itself)

field_eq-sound : (a b : Field) → field_eq a b ≡ true → a ≡ b
field_eq-sound (Leaf a) (Leaf b) h = ap Leaf (same_plain a b ((tree_eq-Decides (tree_of a) (tree_of b)).0 h))
field_eq-sound (Leaf a) (Link b) h = absurd (true≢false (sym h))
field_eq-sound (Leaf a) (Links b) h = absurd (true≢false (sym h))
field_eq-sound (Link a) (Leaf b) h = absurd (true≢false (sym h))
field_eq-sound (Link a) (Link b) h = ap Link ((bytes_eq-Decides a b).0 h)
field_eq-sound (Link a) (Links b) h = absurd (true≢false (sym h))
field_eq-sound (Links a) (Leaf b) h = absurd (true≢false (sym h))
field_eq-sound (Links a) (Link b) h = absurd (true≢false (sym h))
field_eq-sound (Links a) (Links b) h = ap Links ((links_eq-Decides a b).0 h)

field_eq-itself : (a : Field) → field_eq a a ≡ true
field_eq-itself (Leaf a) = (tree_eq-Decides (tree_of a) (tree_of a)).1 refl
field_eq-itself (Link a) = (bytes_eq-Decides a a).1 refl
field_eq-itself (Links a) = (links_eq-Decides a a).1 refl

pub field_eq-Decides : (a b : Field) → Decides (field_eq a b) (a ≡ b)
field_eq-Decides = decides field_eq field_eq-sound field_eq-itself

first : (a b : Bool) → (a && b) ≡ true → a ≡ true
first true b h = refl
first false b h = h

second : (a b : Bool) → (a && b) ≡ true → b ≡ true
second true b h = h
second false b h = absurd (true≢false (sym h))

entry_eq-sound : (a b : Text × Field) → entry_eq a b ≡ true → a ≡ b
entry_eq-sound a b h = λ i. ((bytes_eq-Decides a.0 b.0).0 (first (bytes_eq a.0 b.0) _ h) i, field_eq-sound a.1 b.1 (second (bytes_eq a.0 b.0) _ h) i)

entry_eq-itself : (a : Text × Field) → entry_eq a a ≡ true
entry_eq-itself a = λ i. (bytes_eq-Decides a.0 a.0).1 refl i && field_eq-itself a.1 i

pub entry_eq-Decides : (a b : Text × Field) → Decides (entry_eq a b) (a ≡ b)
entry_eq-Decides = decides entry_eq entry_eq-sound entry_eq-itself

pub fields_eq-Decides : (a b : List (Text × Field)) → Decides (fields_eq a b) (a ≡ b)
fields_eq-Decides = pointwise_decides entry_eq-Decides

record_eq-sound : (a b : Record) → record_eq a b ≡ true → a ≡ b
record_eq-sound a b h =
    let same_type = (bytes_eq-Decides a.type_name b.type_name).0 (first (bytes_eq a.type_name b.type_name) _ h) in
    let same_fields = (fields_eq-Decides a.fields b.fields).0 (second (bytes_eq a.type_name b.type_name) _ h) in
    λ i. record { type_name = same_type i; fields = same_fields i }

record_eq-itself : (a : Record) → record_eq a a ≡ true
record_eq-itself a = λ i. (bytes_eq-Decides a.type_name a.type_name).1 refl i && (fields_eq-Decides a.fields a.fields).1 refl i

pub record_eq-Decides : (a b : Record) → Decides (record_eq a b) (a ≡ b)
record_eq-Decides = decides record_eq record_eq-sound record_eq-itself

pub field_eq_equiv : IsEquivalence field_eq
field_eq_equiv = decided field_eq field_eq-Decides

pub entry_eq_equiv : IsEquivalence entry_eq
entry_eq_equiv = decided entry_eq entry_eq-Decides

pub fields_eq_equiv : IsEquivalence fields_eq
fields_eq_equiv = decided fields_eq fields_eq-Decides

pub record_eq_equiv : IsEquivalence record_eq
record_eq_equiv = decided record_eq record_eq-Decides
