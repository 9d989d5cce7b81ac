-- Worked lines of the definitions.
use Rattle.std.proofs.Common.{◌≡◌, List, [], ◌∷◌, true, false, Some, None, codes, refl, pos}
use Rattle.doc_uses.specs.gql_ast.Sels as sels
use Rattle.doc_uses.specs.gql_ast.Ty as ty
use Rattle.doc_uses.specs.gql_ast.Value.{Val, variable, int, text, truth, null, list, object, no_vals, val, no_members, member}
use Rattle.relay_marks.specs.gql_lex.Heads.{head}
use Rattle.relay_marks.specs.gql_lex.Sources.{read}
use Rattle.doc_uses.specs.schema_types.Sites.{ArgumentAt, DirectiveAt, Site, spread, DefinitionAt, fragment}
use Rattle.relay_marks.specs.gql_graph.Texts.{Text}
use Rattle.relay_marks.specs.Connections.{is_key, is_good_key, are_good_filters, filters_of_value}
use Rattle.relay_marks.specs.Locals.{Local, local_of}
use Rattle.relay_rules.specs.RelayRules.{is_bad_alias, is_good_local, is_truth, aliases_wrong, locals_wrong, masks_wrong}
use Rattle.relay_rules.specs.Spreads.{are_given_well, spreads_wrong, use_allowed}
use Rattle.relay_marks.specs.TypeTexts.{type_in}
use Rattle.relay_marks.specs.constant_values.Fittings.{is_constant}

-- ---- the type that a text says

type_named : type_in (codes "Int") ≡ Some (ty.named (codes "Int"))
unfolding read head
type_named = refl

type_in_ignored_text : type_in (codes " [ Int! ]! ,") ≡ Some (ty.non_null (ty.list (ty.non_null (ty.named (codes "Int")))))
unfolding read head
type_in_ignored_text = refl

list_type_without_end : type_in (codes "[Int") ≡ None
unfolding read head
list_type_without_end = refl

two_types : type_in (codes "Int Int") ≡ None
unfolding read head
two_types = refl

non_null_twice : type_in (codes "Int!!") ≡ None
unfolding read head
non_null_twice = refl

no_type : type_in [] ≡ None
unfolding read head
no_type = refl

type_of_a_variable : type_in (codes "$x") ≡ None
unfolding read head
type_of_a_variable = refl

-- ---- local variables

abbrev of_type : Text → Val → Val
of_type t v = object (member (codes "defaultValue") v (member (codes "type") (text t) no_members))

local_with_default : local_of (codes "x") (of_type (codes "Int") (int (pos 2))) ≡ Some (record { name = codes "x"; of = ty.named (codes "Int"); default = Some (int (pos 2)) })
unfolding read head
local_with_default = refl

local_without_type : local_of (codes "x") (object (member (codes "defaultValue") null no_members)) ≡ None
local_without_type = refl

local_with_two_types : local_of (codes "x") (object (member (codes "type") (text (codes "Int")) (member (codes "type") (text (codes "Int")) no_members))) ≡ None
local_with_two_types = refl

local_with_more : local_of (codes "x") (object (member (codes "type") (text (codes "Int")) (member (codes "of") null no_members))) ≡ None
local_with_more = refl

type_that_is_no_string : local_of (codes "x") (object (member (codes "type") null no_members)) ≡ None
type_that_is_no_string = refl

variable_deep_inside : is_constant (list (val (object (member (codes "a") (variable (codes "v")) no_members)) no_vals)) ≡ false
variable_deep_inside = refl

good_local : is_good_local [] (Some (record { name = codes "x"; of = ty.named (codes "Boolean"); default = Some (truth true) })) ≡ true
good_local = refl

default_that_does_not_fit : is_good_local [] (Some (record { name = codes "x"; of = ty.named (codes "Boolean"); default = Some (text (codes "a")) })) ≡ false
default_that_does_not_fit = refl

type_that_is_not_there : is_good_local [] (Some (record { name = codes "x"; of = ty.named (codes "Int8"); default = None })) ≡ false
type_that_is_not_there = refl

-- ---- what a spread gives

abbrev flag : Local
flag = record { name = codes "flag"; of = ty.non_null (ty.named (codes "Boolean")); default = None }

abbrev gives : Val → ArgumentAt
gives v = record { name = record { name = codes "flag"; at = 5 }; value = record { of = v; at = 6 } }

given_well : are_given_well [] (flag ∷ []) (gives (truth true) ∷ []) ≡ true
given_well = refl

given_nothing : are_given_well [] (flag ∷ []) [] ≡ false
given_nothing = refl

given_null : are_given_well [] (flag ∷ []) (gives null ∷ []) ≡ false
given_null = refl

given_another_type : are_given_well [] (flag ∷ []) (gives (text []) ∷ []) ≡ false
given_another_type = refl

given_where_there_is_none : are_given_well [] [] (gives (truth true) ∷ []) ≡ false
given_where_there_is_none = refl

nullable_at_non_null : use_allowed (ty.named (codes "Int")) false (ty.non_null (ty.named (codes "Int"))) false ≡ false
nullable_at_non_null = refl

nullable_with_default : use_allowed (ty.named (codes "Int")) true (ty.non_null (ty.named (codes "Int"))) false ≡ true
nullable_with_default = refl

-- ---- a fragment that spreads another: the spread's name is the place

abbrev defining : Val → DirectiveAt
defining v = record { name = record { name = codes "argumentDefinitions"; at = 21 }; arguments = record { name = record { name = codes "n"; at = 23 }; value = record { of = v; at = 24 } } ∷ [] }

abbrev giving : Val → Site
giving v = spread None (record { name = codes "B"; at = 11 }) (record { name = record { name = codes "arguments"; at = 12 }; arguments = record { name = record { name = codes "n"; at = 14 }; value = record { of = v; at = 15 } } ∷ [] } ∷ [])

abbrev two : (given local : Val) → List DefinitionAt
two v w =
    fragment (record { name = record { name = codes "A"; at = 3 }; on = record { name = codes "User"; at = 4 }; directives = []; selections = sels.end; sites = giving v ∷ [] })
    ∷ fragment (record { name = record { name = codes "B"; at = 19 }; on = record { name = codes "User"; at = 20 }; directives = defining w ∷ []; selections = sels.end; sites = [] })
    ∷ []

abbrev int_local : Val
int_local = object (member (codes "type") (text (codes "Int")) no_members)

both_good : spreads_wrong [] (two null int_local) ≡ []
unfolding read head
both_good = refl

given_unfit : spreads_wrong [] (two (text []) int_local) ≡ 11 ∷ []
unfolding read head
given_unfit = refl

local_unfit : locals_wrong [] (two null null) ≡ 23 ∷ []
local_unfit = refl

-- ---- masks and aliases

mask_of_a_variable : is_truth (Some (variable (codes "m"))) ≡ false
mask_of_a_variable = refl

no_masks : masks_wrong (two null int_local) ≡ []
no_masks = refl

no_aliases : aliases_wrong (two null int_local) ≡ []
no_aliases = refl

reserved_alias : is_bad_alias (codes "__a") (codes "name") ≡ true
reserved_alias = refl

alias_with_one_underscore : is_bad_alias (codes "_a") (codes "name") ≡ false
alias_with_one_underscore = refl

alias_id : is_bad_alias (codes "id") (codes "name") ≡ true
alias_id = refl

alias_id_of_id : is_bad_alias (codes "id") (codes "id") ≡ false
alias_id_of_id = refl

-- ---- connections

key : is_key (codes "friends") (codes "K_friends") ≡ true
key = refl

key_without_front : is_key (codes "friends") (codes "_friends") ≡ false
key_without_front = refl

key_of_another : is_key (codes "friends") (codes "K_friend") ≡ false
key_of_another = refl

key_with_more_behind : is_key (codes "friends") (codes "K_friends_") ≡ false
key_with_more_behind = refl

key_with_two_underscores : is_key (codes "f") (codes "__f") ≡ true
key_with_two_underscores = refl

key_that_is_no_name : is_key (codes "f") (codes "1_f") ≡ false
key_that_is_no_name = refl

key_of_a_variable : is_good_key (codes "f") (Some (variable (codes "k"))) ≡ false
key_of_a_variable = refl

filters_twice : are_good_filters (codes "a" ∷ codes "b" ∷ []) (Some (list (val (text (codes "b")) (val (text (codes "b")) no_vals)))) ≡ true
filters_twice = refl

filter_of_no_argument : are_good_filters (codes "a" ∷ []) (Some (list (val (text (codes "b")) no_vals))) ≡ false
filter_of_no_argument = refl

single_filter : are_good_filters (codes "a" ∷ []) (Some (text (codes "a"))) ≡ false
single_filter = refl

filters_in_order : filters_of_value (Some (list (val (text (codes "b")) (val (text (codes "a")) (val (text (codes "b")) no_vals))))) ≡ Some (codes "a" ∷ codes "b" ∷ [])
filters_in_order = refl
