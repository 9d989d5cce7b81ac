-- The machine of schemas with what its laws speak of.
use Rattle.std.proofs.Common.{ℕ, true, List, ◌∷◌, codes}
use Rattle.gql_syntax.specs.gql_lex.Toks as tok
use Rattle.gql_syntax.specs.gql_lex.Toks.{Tok}
use Rattle.gql_syntax.proofs.Laws.{Leveled, Machine}
use Rattle.gql_syntax.proofs.Standing.{mark_level, Ground, value_level, value_so_far, lift_value, SeatedValue, directives_level, directives_so_far, lift_directives, SeatedDirectives, type_level, type_so_far, lift_type, SeatedType}
use Rattle.gql_syntax.proofs.Shapes.{ShapedDirectives}
use Rattle.gql_syntax.specs.Spelling.{spell_directives}
use Rattle.gql_syntax.specs.Words.{kind_word}
use Rattle.std.specs.List.{AllByRecursion}
use Rattle.gql_sdl.specs.Machine.{titled_word, fielded_word, Owner, TypedInput, Typed, no_front, State, head, title, entitled, directive_sign, directive_title, directive_arguments, directive_on, listing, listing_led, listing_more, listing_next, roots, root_colon, root_name, fields, field_arguments, field_colon, inputs, input_colon, input_default, enum_values, in_directives, in_type, in_value, advance, finish, listing_names, separator}
use Rattle.gql_sdl.specs.Schemas.{Described, NotEmpty, spell_description, spell_inputs, spell_argument_defs, spell_fields, spell_enum_values, spell_roots, spell_repeatable}
use Rattle.gql_sdl.proofs.Shapes.{ShapedInput, ShapedField, ShapedEnumValue}
use Rattle.gql_sdl.proofs.Fronts.{flat, head_front, fields_front, field_front, argued_front, inputs_front, input_front, typed_input_front, values_front, typed_front, owner_front, listing_front, listed_front}
use Rattle.gql_sdl.proofs.Seats.{FrontSeat, FieldsSeat, FieldSeat, ArguedSeat, InputsSeat, InputSeat, TypedInputSeat, ValuesSeat, TypedSeat, OwnerSeat, ListingSeat, IsEmpty}

abbrev pub owner_ground : Ground Owner
owner_ground = record { front = owner_front; constant = λ o. true; lift = λ k o. o; Seated = λ limit o. OwnerSeat o }

abbrev pub default_ground : Ground TypedInput
default_ground = record {
  front = λ i ts. typed_input_front i (flat tok.equals ∷ ts);
  constant = λ i. true;
  lift = λ k i. i;
  Seated = λ limit i. TypedInputSeat i;
}

abbrev pub typed_ground : Ground Typed
typed_ground = record { front = typed_front; constant = λ y. true; lift = λ k y. y; Seated = λ limit y. TypedSeat y }

abbrev pub so_far : State → List Leveled → List Leveled
so_far (head f) ts = head_front f ts
so_far (title f k) ts = head_front f (flat (tok.name (titled_word k)) ∷ ts)
so_far (entitled f k n) ts = head_front f (flat (tok.name (fielded_word k)) ∷ flat (tok.name n) ∷ ts)
so_far (directive_sign f) ts = head_front f (flat (tok.name (codes "directive")) ∷ ts)
so_far (directive_title f) ts = head_front f (flat (tok.name (codes "directive")) ∷ flat tok.at_sign ∷ ts)
so_far (directive_arguments f n) ts = head_front f (flat (tok.name (codes "directive")) ∷ flat tok.at_sign ∷ flat (tok.name n) ∷ ts)
so_far (directive_on f n ws repeatable) ts =
    head_front f (flat (tok.name (codes "directive")) ∷ flat tok.at_sign ∷ flat (tok.name n)
    ∷ spell_argument_defs mark_level ws (spell_repeatable mark_level repeatable ts))
so_far (listing l) ts = listing_front l ts
so_far (listing_led l) ts = listing_front l (flat (separator l) ∷ ts)
so_far (listing_more leading l) ts = listed_front leading l ts
so_far (listing_next leading l) ts = listed_front leading l (flat (separator l) ∷ ts)
so_far (roots f ds rs) ts =
    head_front f (flat (tok.name (codes "schema")) ∷ spell_directives mark_level ds (flat tok.open_brace ∷ spell_roots mark_level rs ts))
so_far (root_colon f ds rs k) ts =
    head_front f (flat (tok.name (codes "schema")) ∷ spell_directives mark_level ds (flat tok.open_brace
    ∷ spell_roots mark_level rs (flat (tok.name (kind_word k)) ∷ ts)))
so_far (root_name f ds rs k) ts =
    head_front f (flat (tok.name (codes "schema")) ∷ spell_directives mark_level ds (flat tok.open_brace
    ∷ spell_roots mark_level rs (flat (tok.name (kind_word k)) ∷ flat tok.colon ∷ ts)))
so_far (fields f fs d) ts = fields_front f (spell_fields mark_level fs (spell_description mark_level d ts))
so_far (field_arguments f) ts = field_front f ts
so_far (field_colon a) ts = argued_front a ts
so_far (inputs i ws d) ts = inputs_front i (spell_inputs mark_level ws (spell_description mark_level d ts))
so_far (input_colon i) ts = input_front i ts
so_far (input_default i) ts = typed_input_front i ts
so_far (enum_values v vs d) ts = values_front v (spell_enum_values mark_level vs (spell_description mark_level d ts))
so_far (in_directives d) ts = directives_so_far owner_ground d ts
so_far (in_type y) ts = type_so_far typed_ground y ts
so_far (in_value r) ts = value_so_far default_ground r ts

abbrev pub level_at : State → Tok → ℕ
level_at (in_directives d) t = directives_level (λ o t. 0) d t
level_at (in_type y) t = type_level (λ y t. 0) y t
level_at (in_value r) t = value_level r t
level_at s t = 0

abbrev pub lift : ℕ → State → State
lift k (in_directives d) = in_directives (lift_directives owner_ground k d)
lift k (in_type y) = in_type (lift_type typed_ground k y)
lift k (in_value r) = in_value (lift_value default_ground k r)
lift k s = s

abbrev pub Seated : (limit : ℕ) → State → Type 0
Seated limit (head f) = FrontSeat f
Seated limit (title f k) = FrontSeat f
Seated limit (entitled f k n) = FrontSeat f
Seated limit (directive_sign f) = FrontSeat f
Seated limit (directive_title f) = FrontSeat f
Seated limit (directive_arguments f n) = FrontSeat f
Seated limit (directive_on f n ws repeatable) = FrontSeat f × AllByRecursion ShapedInput ws
Seated limit (listing l) = ListingSeat l × IsEmpty (listing_names l)
Seated limit (listing_led l) = ListingSeat l × IsEmpty (listing_names l)
Seated limit (listing_more leading l) = ListingSeat l × NotEmpty (listing_names l)
Seated limit (listing_next leading l) = ListingSeat l × NotEmpty (listing_names l)
Seated limit (roots f ds rs) = FrontSeat f × ShapedDirectives true ds
Seated limit (root_colon f ds rs k) = FrontSeat f × ShapedDirectives true ds
Seated limit (root_name f ds rs k) = FrontSeat f × ShapedDirectives true ds
Seated limit (fields f fs d) = FieldsSeat f × AllByRecursion ShapedField fs
Seated limit (field_arguments f) = FieldSeat f
Seated limit (field_colon a) = ArguedSeat a
Seated limit (inputs i ws d) = InputsSeat i × AllByRecursion ShapedInput ws
Seated limit (input_colon i) = InputSeat i
Seated limit (input_default i) = TypedInputSeat i
Seated limit (enum_values v vs d) = ValuesSeat v × AllByRecursion ShapedEnumValue vs
Seated limit (in_directives d) = SeatedDirectives owner_ground limit d
Seated limit (in_type y) = SeatedType typed_ground limit y
Seated limit (in_value r) = SeatedValue default_ground limit r

-- the states that read no value, type or directive
abbrev pub Own : State → Type 0
Own (in_directives d) = ⊥
Own (in_type y) = ⊥
Own (in_value r) = ⊥
Own s = Unit {0}

abbrev pub machine : Machine State (List Described)
machine = record {
  start = λ limit. head no_front;
  step = advance;
  finish = finish;
  so_far = so_far;
  level_at = level_at;
  lift = lift;
  Seated = Seated;
}
