-- The object types that a type may be have Names, where the schema is that of a text.
use Rattle.std.proofs.Common.{ℕ, Bool, true, false, cond, List, [], ◌∷◌, map, Option, Some, None, sym, subst}
use Rattle.std.specs.Cmp.Lexicographic.{slice_cmp}
use Rattle.std.specs.List.{AllByRecursion, cons_option, filter, filter_map}
use Rattle.std.specs.Option.{IfSome}
use Rattle.std.specs.Ordering.{nat_cmp, match_ordering}
use Rattle.std.specs.declared.cmp.Ordering.{Ordering}
use Rattle.std.specs.declared.cmp.Ordering.TheVariants.{Less, Equal, Greater}
use Rattle.plan_ir.specs.gql_ast.declared.place.Placed.{Placed}
use Rattle.plan_ir.specs.gql_ast.declared.schema.SchemaTree.{SchemaTree}
use Rattle.plan_ir.specs.gql_plain.Order.{sorted_texts, with_text}
use Rattle.text_places.specs.gql_sdl.Schemas.{Described, FormedWritten, Written, schema, scalar, object, interface, union, enum, input, directive, definition_of, written_of}
use Rattle.text_places.specs.gql_sdl.Trees.{IsSchema}
use Rattle.plan_ir.specs.gql_syntax.Words.{IsName}
use Rattle.plan_ir.specs.schema_tables.Types.{Text, Defs, applies, object_name, possible}

one : (w : Written) → FormedWritten w → IfSome (object_name (written_of w)) IsName
one (schema ds rs) h = tt
one (scalar n ds) h = tt
one (object n leading is ds fs) h = h.0
one (interface n leading is ds fs) h = tt
one (union n ds leading ms) h = tt
one (enum n ds vs) h = tt
one (input n ds ws) h = tt
one (directive n ws repeatable leading ls) h = tt

with_one : (o : Option Text) (ns : List Text) → IfSome o IsName → AllByRecursion IsName ns → AllByRecursion IsName (cons_option o ns)
with_one None ns h k = k
with_one (Some n) ns h k = (h, k)

objects : (ds : List Described) → AllByRecursion (λ (d : Described). FormedWritten d.written) ds → AllByRecursion IsName (filter_map object_name (map definition_of ds))
objects [] h = tt
objects (d ∷ ds) h = with_one (object_name (definition_of d)) (filter_map object_name (map definition_of ds)) (one d.written h.0) (objects ds h.1)

kept : (p : Text → Bool) (ns : List Text) → AllByRecursion IsName ns → AllByRecursion IsName (filter p ns)
kept p [] h = tt
kept p (n ∷ ns) h = on (kept p ns h.1) (p n)
  where
    on : AllByRecursion IsName (filter p ns) → (b : Bool) → AllByRecursion IsName (cond b (n ∷ filter p ns) (filter p ns))
    on rest true = (h.0, rest)
    on rest false = rest

put : (n : Text) (ns : List Text) → IsName n → AllByRecursion IsName ns → AllByRecursion IsName (with_text n ns)
put n [] h k = (h, tt)
put n (m ∷ ms) h k = on (put n ms h k.1) (slice_cmp nat_cmp n m)
  where
    on : AllByRecursion IsName (with_text n ms) → (o : Ordering) → AllByRecursion IsName (match_ordering o (n ∷ m ∷ ms) (m ∷ ms) (m ∷ with_text n ms))
    on rest Less = (h, k)
    on rest Equal = k
    on rest Greater = (k.0, rest)

sorted : (ns : List Text) → AllByRecursion IsName ns → AllByRecursion IsName (sorted_texts ns)
sorted [] h = tt
sorted (n ∷ ns) h = put n (sorted_texts ns) h.0 (sorted ns h.1)

-- each name of such a list is a Name
abbrev pub PossibleNames : Defs → Type 0
PossibleNames defs = (t : Text) → AllByRecursion IsName (possible defs t)

of_objects : (defs : Defs) → AllByRecursion IsName (filter_map object_name defs) → PossibleNames defs
of_objects defs h t = sorted (filter (λ object. applies defs object t) (filter_map object_name defs)) (kept (λ object. applies defs object t) (filter_map object_name defs) h)

pub possible_names : (file : ℕ) (text : Text) (p : Placed SchemaTree) → IsSchema file text p → PossibleNames p.tree.definitions
possible_names file text p s t =
    of_objects p.tree.definitions (subst (λ ds. AllByRecursion IsName (filter_map object_name ds)) (sym s.definitions) (objects s.written s.tree.formed.1)) t
