-- The local variables of a sound fragment have sound defaults.
use Rattle.std.proofs.Common.{ℕ, ◌+◌, Bool, true, false, cond, List, [], ◌∷◌, codes, Option, Some, None, is_some, bytes_eq}
use Rattle.std.specs.List.{AllByRecursion}
use Rattle.std.specs.Option.{IfSome}
use Rattle.plan_ir.specs.gql_ast.Ty.{Ty}
use Rattle.plan_ir.specs.gql_ast.Value.{Val, Members, variable, int, text, truth, null, enum, list, object, no_members, member}
use Rattle.plan_ir.specs.gql_ast.declared.directive.Directive.{Directive}
use Rattle.plan_ir.specs.gql_graph.Rules.{each}
use Rattle.plan_project.proofs.ReadTrees.{all_append}
use Rattle.plan_project.proofs.SoundNodes.{SoundLocal}
use Rattle.plan_project.proofs.SoundTrees.{SoundArguments, SoundDirectives, SoundMembers, SoundValue}
use Rattle.plan_ir.specs.relay_marks.Locals.{Local, LocalObject, and_next, as_list, defines_locals, local_at, local_of, locals_of, members_from, object_by, of_said, of_text, with_default, with_member, with_type, with_type_text}
use Rattle.plan_ir.specs.relay_marks.TypeTexts.{type_in}
use Rattle.plan_ir.specs.schema_tables.Types.{Text}
use Rattle.plan_ir.specs.schema_trees.Located.{value_nodes}
use Rattle.plan_ir.specs.schema_types.Sites.{arguments_at, arguments_nodes, directives_at}

abbrev SoundObject : LocalObject → Type 0
SoundObject s = IfSome s.default SoundValue

either_object : (b : Bool) (x y : Option LocalObject) → IfSome x SoundObject → IfSome y SoundObject → IfSome (cond b x y) SoundObject
either_object true x y h k = h
either_object false x y h k = k

typed : (s : LocalObject) (v : Val) → SoundObject s → IfSome (with_type s v) SoundObject
typed s (variable n) h = tt
typed s (int z) h = tt
typed s (text t) h = either_object (is_some s.of) None (Some (record { of = Some t; default = s.default })) tt h
typed s (truth b) h = tt
typed s null h = tt
typed s (enum n) h = tt
typed s (list vs) h = tt
typed s (object ms) h = tt

with_one : (s : LocalObject) (n : Text) (v : Val) → SoundObject s → SoundValue v → IfSome (with_member s n v) SoundObject
with_one s n v h k =
    either_object (bytes_eq n (codes "type")) (with_type s v) (cond (bytes_eq n (codes "defaultValue")) (with_default s v) None) (typed s v h)
    (either_object (bytes_eq n (codes "defaultValue")) (with_default s v) None
    (either_object (is_some s.default) None (Some (record { of = s.of; default = Some v })) tt k) tt)

next : (o : Option LocalObject) (ms : Members) → IfSome o SoundObject → ((s : LocalObject) → SoundObject s → IfSome (members_from s ms) SoundObject)
    → IfSome (and_next o (λ t. members_from t ms)) SoundObject
next None ms h more = tt
next (Some s) ms h more = more s h

members_say : (ms : Members) (s : LocalObject) → SoundObject s → SoundMembers ms → IfSome (members_from s ms) SoundObject
members_say no_members s h k = h
members_say (member n v ms) s h k = next (with_member s n v) ms (with_one s n v h k.1) (λ t i. members_say ms t i k.2)

object_said : (v : Val) → SoundValue v → IfSome (object_by v) SoundObject
object_said (variable n) h = tt
object_said (int z) h = tt
object_said (text t) h = tt
object_said (truth b) h = tt
object_said null h = tt
object_said (enum n) h = tt
object_said (list vs) h = tt
object_said (object ms) h = members_say ms (record { of = None; default = None }) tt h

with_text : (n : Text) (d : Option Val) (t : Option Ty) → IfSome d SoundValue → AllByRecursion SoundLocal (as_list (with_type_text n d t))
with_text n d None h = tt
with_text n d (Some t) h = (h, tt)

of_type : (n : Text) (d : Option Val) (t : Option Text) → IfSome d SoundValue → AllByRecursion SoundLocal (as_list (of_text n d t))
of_type n d None h = tt
of_type n d (Some t) h = with_text n d (type_in t) h

said : (n : Text) (o : Option LocalObject) → IfSome o SoundObject → AllByRecursion SoundLocal (as_list (of_said n o))
said n None h = tt
said n (Some s) h = of_type n s.default s.of h

arguments_say : (from : ℕ) (xs : List (Text × Val)) → SoundArguments xs → AllByRecursion SoundLocal (each local_at (arguments_at from xs))
arguments_say from [] h = tt
arguments_say from (x ∷ xs) h =
    all_append SoundLocal (as_list (local_of x.0 x.1)) (each local_at (arguments_at (from + (2 + value_nodes x.1)) xs)) (said x.0 (object_by x.1) (object_said x.1 h.0.1))
    (arguments_say (from + (2 + value_nodes x.1)) xs h.1)

either_locals : (b : Bool) (ls : List Local) → AllByRecursion SoundLocal ls → AllByRecursion SoundLocal (cond b ls [])
either_locals true ls h = h
either_locals false ls h = tt

pub locals_sound : (from : ℕ) (ds : List Directive) → SoundDirectives ds → AllByRecursion SoundLocal (locals_of (directives_at from ds))
locals_sound from [] h = tt
locals_sound from (d ∷ ds) h =
    let own : List Local = each local_at (arguments_at (from + 2) d.arguments) in
    all_append SoundLocal (cond (defines_locals d.name) own []) (locals_of (directives_at (from + (2 + arguments_nodes d.arguments)) ds))
    (either_locals (defines_locals d.name) own (arguments_say (from + 2) d.arguments h.0.1)) (locals_sound (from + (2 + arguments_nodes d.arguments)) ds h.1)
