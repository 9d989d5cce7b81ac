-- Where a text may end, what was read is a schema.
use Rattle.std.proofs.Common.{◌≡◌, ℕ, ◌+◌, Bool, true, false, List, [], ◌∷◌, ◌++◌, map, Some, None, refl, sym, ap, subst, ◌∙◌}
use Rattle.std.specs.List.{AllByRecursion}
use Rattle.gql_syntax.specs.gql_lex.Toks as tok
use Rattle.gql_syntax.specs.gql_lex.Toks.{Tok}
use Rattle.gql_syntax.specs.Words.{kind_word}
use Rattle.gql_syntax.specs.gql_ast.declared.directive.Directive.{Directive}
use Rattle.gql_syntax.specs.gql_ast.declared.schema.Root.{Root}
use Rattle.gql_syntax.proofs.Laws.{Leveled}
use Rattle.gql_syntax.proofs.Marks.{map_mark, map-directives, map-type, map-default, directives-then, shaped_directives-then}
use Rattle.gql_syntax.proofs.Standing.{mark_level}
use Rattle.gql_syntax.proofs.Shapes.{ShapedDirectives}
use Rattle.gql_syntax.specs.Machine.{further, applied}
use Rattle.gql_syntax.specs.Spelling.{Mark, spell_directives}
use Rattle.gql_sdl.specs.Machine.{Front, Owner, on_schema, on_scalar, on_fielded, on_union, on_enum, on_object, on_input, on_field, on_value, Listing, implementing, uniting, locating, listing_names, State, head, entitled, listing_more, in_directives, front_then, heading_then, heading_of, front_ends, finish_front, finish_directives, finish_listing, finish}
use Rattle.gql_sdl.specs.Schemas.{Description, WrittenInput, WrittenField, WrittenValue, Written, schema, scalar, object, interface, union, enum, input, directive, Described, NotEmpty, spell_description, spell_input, spell_inputs, spell_argument_defs, spell_input_fields, spell_field, spell_fields, spell_fields_part, spell_enum_value, spell_enum_values, spell_enum_values_part, spell_roots, spell_leading, spell_further, spell_separated, spell_implements, spell_members_part, spell_repeatable, spell_written, spell_described, spell_definitions, spell_schema}
use Rattle.gql_sdl.proofs.Shapes.{ShapedWritten}
use Rattle.gql_sdl.proofs.Fronts.{definitions_front, head_front, owner_front, listed_front, front-then, heading-then}
use Rattle.gql_sdl.proofs.Seats.{Neat, ShapedDescribed, FrontSeat, OwnerSeat, ListingSeat, all-push}
use Rattle.gql_sdl.proofs.States.{so_far, Seated}
use Rattle.gql_sdl.proofs.Steps.{heading-seat}

-- ---- definitions, and the tokens of a schema

written_first : (n : ℕ) (w : Written) (ts : List Leveled) → spell_written mark_level n w ts ≡ spell_written mark_level 0 w ts
written_first n (schema ds rs) ts = refl
written_first n (scalar m ds) ts = refl
written_first n (object m leading is ds fs) ts = refl
written_first n (interface m leading is ds fs) ts = refl
written_first n (union m ds leading ms) ts = refl
written_first n (enum m ds vs) ts = refl
written_first n (input m ds ws) ts = refl
written_first n (directive m ws repeatable leading ls) ts = refl

described_first : (above : ℕ) (d : Description) (w : Written) (ts : List Leveled)
    → spell_description mark_level d (spell_written mark_level 0 w ts) ≡ spell_described mark_level above d w ts
described_first above None w ts = sym (written_first (above + 1) w ts)
described_first above (Some d) w ts = refl

definitions-spelled : (above : ℕ) (ds : List Described) → definitions_front ds [] ≡ spell_definitions mark_level above ds
definitions-spelled above [] = refl
definitions-spelled above (d ∷ ds) =
    described_first above d.description d.written (definitions_front ds [])
    ∙ ap (spell_described mark_level above d.description d.written) (definitions-spelled 0 ds)

-- ---- a text that is whole

-- what was read is this schema
pub record Whole (read : List Leveled) (v : List Described) : Type 0 where
  pub spelled : read ≡ spell_schema mark_level v
  pub not_empty : NotEmpty v
  pub formed : AllByRecursion ShapedDescribed v

whole-moves : (read told : List Leveled) (v : List Described) → read ≡ told → Whole read v → Whole told v
whole-moves read told v e w = record { spelled = sym e ∙ w.spelled; not_empty = w.not_empty; formed = w.formed }

front_ends-whole : (before : List Described) (d : Description) (v : List Described) → AllByRecursion ShapedDescribed before → front_ends before d ≡ Some v
    → Whole (definitions_front before (spell_description mark_level d [])) v
front_ends-whole [] d v h e = absurd (cc)
front_ends-whole (b ∷ more) (Some d) v h e = absurd (cc)
front_ends-whole (b ∷ more) None v h e =
    let same : b ∷ more ≡ v = cc in
    subst (Whole (definitions_front (b ∷ more) [])) same
    (record { spelled = definitions-spelled 1 (b ∷ more); not_empty = tt; formed = h })

front-whole : (f : Front) (v : List Described) → FrontSeat f → finish_front f ≡ Some v → Whole (head_front f []) v
front-whole f v h e = front_ends-whole f.before f.description v h e

-- a definition is whole
definition-whole : (read : List Leveled) (f : Front) (w : Written) (v : List Described) → head_front f (spell_written mark_level 0 w []) ≡ read
    → FrontSeat f → ShapedWritten w → Neat w → finish_front (front_then f w) ≡ Some v → Whole read v
definition-whole read f w v e h k n d =
    whole-moves (head_front (front_then f w) []) read v (front-then f w [] ∙ e)
    (front-whole (front_then f w) v (all-push ShapedDescribed f.before (record { description = f.description; written = w }) h (k, n)) d)

directives-whole : (o : Owner) (ds : List Directive) (v : List Described) → OwnerSeat o → ShapedDirectives true ds → finish_directives o ds ≡ Some v
    → Whole (owner_front o (spell_directives mark_level ds [])) v
directives-whole (on_schema f) ds v h d e = absurd (cc)
directives-whole (on_scalar f n) ds v h d e = definition-whole _ f (scalar n ds) v refl h d tt e
directives-whole (on_fielded k) ds v h d e =
    whole-moves (head_front (heading_then k ds []) []) _ v (heading-then k ds [] [])
    (front-whole (heading_then k ds []) v (heading-seat 0 k ds [] h d tt) e)
directives-whole (on_union f n) ds v h d e = definition-whole _ f (union n ds false []) v refl h d tt e
directives-whole (on_enum f n) ds v h d e = definition-whole _ f (enum n ds []) v refl h (d, tt) tt e
directives-whole (on_object f n) ds v h d e = definition-whole _ f (input n ds []) v refl h (d, tt) tt e
directives-whole (on_input i x) ds v h d e = absurd (cc)
directives-whole (on_field a u) ds v h d e = absurd (cc)
directives-whole (on_value x) ds v h d e = absurd (cc)

listing-whole : (leading : Bool) (l : Listing) (v : List Described) → ListingSeat l → NotEmpty (listing_names l) → finish_listing leading l ≡ Some v
    → Whole (listed_front leading l []) v
listing-whole leading (implementing f k n []) v h e d = absurd e
listing-whole true (implementing f k n (i ∷ is)) v h e d = directives-whole (on_fielded (heading_of f k n true (i ∷ is))) [] v (h, tt) tt d
listing-whole false (implementing f k n (i ∷ is)) v h e d = directives-whole (on_fielded (heading_of f k n false (i ∷ is))) [] v (h, tt) tt d
listing-whole leading (uniting f n ds []) v h e d = absurd e
listing-whole true (uniting f n ds (i ∷ is)) v h e d = definition-whole _ f (union n ds true (i ∷ is)) v refl h.0 h.1 tt d
listing-whole false (uniting f n ds (i ∷ is)) v h e d = definition-whole _ f (union n ds false (i ∷ is)) v refl h.0 h.1 tt d
listing-whole leading (locating f n ws r []) v h e d = absurd e
listing-whole leading (locating f n ws r (l ∷ ls)) v h e d = definition-whole _ f (directive n ws r leading (l ∷ ls)) v refl h.0 (h.1, tt) tt d

pub finish-whole : (limit : ℕ) (s : State) (v : List Described) → Seated limit s → finish s ≡ Some v → Whole (so_far s []) v
finish-whole limit (head f) v h e = front-whole f v h e
finish-whole limit (entitled f k n) v h e = directives-whole (on_fielded (heading_of f k n false [])) [] v (h, tt) tt e
finish-whole limit (listing_more leading l) v h e = listing-whole leading l v h.0 h.1 e
finish-whole limit (in_directives (further c ds o)) v h e = directives-whole o ds v h.2 (subst (λ c. ShapedDirectives c ds) h.0 h.1) e
finish-whole limit (in_directives (applied a)) v h e =
    whole-moves _ _ v (ap (owner_front a.on) (directives-then mark_level a.before (record { name = a.name; arguments = [] }) []))
    (directives-whole a.on (a.before ++ record { name = a.name; arguments = [] } ∷ []) v h.2
    (shaped_directives-then true a.before (record { name = a.name; arguments = [] }) (subst (λ c. ShapedDirectives c a.before) h.0 h.1) tt) e)
finish-whole limit s v h e = absurd (cc)

-- ---- tokens and levels of what is spelled with both

module _ {X Y : Type 0} (f : X → Y) (mark : Mark X) where
  map-description : (d : Description) (ts : List X) → map f (spell_description mark d ts) ≡ spell_description (map_mark f mark) d (map f ts)
  map-description None ts = refl
  map-description (Some d) ts = refl

  map-input : (w : WrittenInput) (ts : List X) → map f (spell_input mark w ts) ≡ spell_input (map_mark f mark) w (map f ts)
  map-input w ts = simp (map-description, map-type f mark, map-default f mark, map-directives f mark)

  map-inputs : (ws : List WrittenInput) (ts : List X) → map f (spell_inputs mark ws ts) ≡ spell_inputs (map_mark f mark) ws (map f ts)
  map-inputs [] ts = refl
  map-inputs (w ∷ ws) ts = map-input w (spell_inputs mark ws ts) ∙ ap (spell_input (map_mark f mark) w) (map-inputs ws ts)

  map-argument_defs : (ws : List WrittenInput) (ts : List X) → map f (spell_argument_defs mark ws ts) ≡ spell_argument_defs (map_mark f mark) ws (map f ts)
  map-argument_defs [] ts = refl
  map-argument_defs (w ∷ ws) ts = ap (λ xs. map_mark f mark tok.open_paren 0 0 ∷ xs) (map-inputs (w ∷ ws) (mark tok.close_paren 0 0 ∷ ts))

  map-input_fields : (ws : List WrittenInput) (ts : List X) → map f (spell_input_fields mark ws ts) ≡ spell_input_fields (map_mark f mark) ws (map f ts)
  map-input_fields [] ts = refl
  map-input_fields (w ∷ ws) ts = ap (λ xs. map_mark f mark tok.open_brace 0 0 ∷ xs) (map-inputs (w ∷ ws) (mark tok.close_brace 0 0 ∷ ts))

  map-field : (w : WrittenField) (ts : List X) → map f (spell_field mark w ts) ≡ spell_field (map_mark f mark) w (map f ts)
  map-field w ts = simp (map-description, map-argument_defs, map-type f mark, map-directives f mark)

  map-fields : (ws : List WrittenField) (ts : List X) → map f (spell_fields mark ws ts) ≡ spell_fields (map_mark f mark) ws (map f ts)
  map-fields [] ts = refl
  map-fields (w ∷ ws) ts = map-field w (spell_fields mark ws ts) ∙ ap (spell_field (map_mark f mark) w) (map-fields ws ts)

  map-fields_part : (ws : List WrittenField) (ts : List X) → map f (spell_fields_part mark ws ts) ≡ spell_fields_part (map_mark f mark) ws (map f ts)
  map-fields_part [] ts = refl
  map-fields_part (w ∷ ws) ts = ap (λ xs. map_mark f mark tok.open_brace 0 0 ∷ xs) (map-fields (w ∷ ws) (mark tok.close_brace 0 0 ∷ ts))

  map-enum_value : (w : WrittenValue) (ts : List X) → map f (spell_enum_value mark w ts) ≡ spell_enum_value (map_mark f mark) w (map f ts)
  map-enum_value w ts = simp (map-description, map-directives f mark)

  map-enum_values : (ws : List WrittenValue) (ts : List X) → map f (spell_enum_values mark ws ts) ≡ spell_enum_values (map_mark f mark) ws (map f ts)
  map-enum_values [] ts = refl
  map-enum_values (w ∷ ws) ts = map-enum_value w (spell_enum_values mark ws ts) ∙ ap (spell_enum_value (map_mark f mark) w) (map-enum_values ws ts)

  map-enum_values_part : (ws : List WrittenValue) (ts : List X)
      → map f (spell_enum_values_part mark ws ts) ≡ spell_enum_values_part (map_mark f mark) ws (map f ts)
  map-enum_values_part [] ts = refl
  map-enum_values_part (w ∷ ws) ts = ap (λ xs. map_mark f mark tok.open_brace 0 0 ∷ xs) (map-enum_values (w ∷ ws) (mark tok.close_brace 0 0 ∷ ts))

  map-roots : (rs : List Root) (ts : List X) → map f (spell_roots mark rs ts) ≡ spell_roots (map_mark f mark) rs (map f ts)
  map-roots [] ts = refl
  map-roots (r ∷ rs) ts = ap (λ xs. map_mark f mark (tok.name (kind_word r.kind)) 0 1 ∷ map_mark f mark tok.colon 0 0 ∷ map_mark f mark (tok.name r.name) 0 1 ∷ xs) (map-roots rs ts)

  map-leading : (s : Tok) (leading : Bool) (ts : List X) → map f (spell_leading mark s leading ts) ≡ spell_leading (map_mark f mark) s leading (map f ts)
  map-leading s true ts = refl
  map-leading s false ts = refl

  map-further : (s : Tok) (n : ℕ) (ns : List (List ℕ)) (ts : List X) → map f (spell_further mark s n ns ts) ≡ spell_further (map_mark f mark) s n ns (map f ts)
  map-further s n [] ts = refl
  map-further s n (m ∷ ns) ts = ap (λ xs. map_mark f mark s 0 0 ∷ map_mark f mark (tok.name m) 0 n ∷ xs) (map-further s n ns ts)

  map-separated : (s : Tok) (n : ℕ) (leading : Bool) (ns : List (List ℕ)) (ts : List X)
      → map f (spell_separated mark s n leading ns ts) ≡ spell_separated (map_mark f mark) s n leading ns (map f ts)
  map-separated s n leading [] ts = refl
  map-separated s n leading (m ∷ ns) ts = simp (map-leading, map-further)

  map-implements : (leading : Bool) (ns : List (List ℕ)) (ts : List X) → map f (spell_implements mark leading ns ts) ≡ spell_implements (map_mark f mark) leading ns (map f ts)
  map-implements leading [] ts = refl
  map-implements leading (m ∷ ns) ts = simp (map-leading, map-further)

  map-members_part : (leading : Bool) (ns : List (List ℕ)) (ts : List X)
      → map f (spell_members_part mark leading ns ts) ≡ spell_members_part (map_mark f mark) leading ns (map f ts)
  map-members_part leading [] ts = refl
  map-members_part leading (m ∷ ns) ts = simp (map-leading, map-further)

  map-repeatable : (r : Bool) (ts : List X) → map f (spell_repeatable mark r ts) ≡ spell_repeatable (map_mark f mark) r (map f ts)
  map-repeatable true ts = refl
  map-repeatable false ts = refl

  map-written : (n : ℕ) (w : Written) (ts : List X) → map f (spell_written mark n w ts) ≡ spell_written (map_mark f mark) n w (map f ts)
  map-written n (schema ds rs) ts = simp (map-directives f mark, map-roots)
  map-written n (scalar m ds) ts = simp (map-directives f mark)
  map-written n (object m leading is ds fs) ts = simp (map-implements, map-directives f mark, map-fields_part)
  map-written n (interface m leading is ds fs) ts = simp (map-implements, map-directives f mark, map-fields_part)
  map-written n (union m ds leading ms) ts = simp (map-directives f mark, map-members_part)
  map-written n (enum m ds vs) ts = simp (map-directives f mark, map-enum_values_part)
  map-written n (input m ds ws) ts = simp (map-directives f mark, map-input_fields)
  map-written n (directive m ws repeatable leading ls) ts = simp (map-argument_defs, map-repeatable, map-separated)

  map-described : (above : ℕ) (d : Description) (w : Written) (ts : List X)
      → map f (spell_described mark above d w ts) ≡ spell_described (map_mark f mark) above d w (map f ts)
  map-described above None w ts = map-written (above + 1) w ts
  map-described above (Some d) w ts = ap (λ xs. f (mark (tok.text d) 0 (above + 1)) ∷ xs) (map-written 0 w ts)

  pub map-definitions : (above : ℕ) (ds : List Described) → map f (spell_definitions mark above ds) ≡ spell_definitions (map_mark f mark) above ds
  map-definitions above [] = refl
  map-definitions above (d ∷ ds) =
      map-described above d.description d.written (spell_definitions mark 0 ds)
      ∙ ap (spell_described (map_mark f mark) above d.description d.written) (map-definitions 0 ds)
