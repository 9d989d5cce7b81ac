-- What an image is: its lists meet these conditions.
use Rattle.std.specs.Prelude.{◌≡◌, ℕ, ◌^◌, List, [], ◌∷◌, ◌++◌, Bool, true, false, ◌&&◌, ◌||◌, not, cond, bytes_eq, nat_eq, nat_lt, nat_le, length, map, Option, Some, None, is_some}
use Rattle.std.specs.Cmp.Lexicographic.{slice_cmp}
use Rattle.std.specs.List.{list_all, list_any}
use Rattle.std.specs.Ordering.{nat_cmp, is_lt}
use Rattle.std.specs.Str.{IsUtf8}
use Rattle.store_model.specs.gql_plain.Equal.{tree_eq}
use Rattle.store_model.specs.gql_plain.Names.{is_name}
use Rattle.store_model.specs.gql_plain.Order.{has_text, member_at}
use Rattle.store_model.specs.gql_plain.ToJson.{data_of}
use Rattle.store_model.specs.gql_plain.declared.plain.Plain.{Plain}
use Rattle.store_model.specs.gql_plain.declared.plain.Plain.TheVariants as P
use Rattle.image_marks.specs.store_record.Keys.{Text, root}
use Rattle.image_marks.specs.store_record.declared.field.Field.{Field}
use Rattle.image_marks.specs.store_record.declared.field.Field.TheVariants.{Leaf, Link, Links}
use Rattle.image_marks.specs.store_record.declared.record.Record.{Record}
use Rattle.store_model.specs.Events.{command_of, is_short, is_there}
use Rattle.store_model.specs.Records.{typename}
use Rattle.store_model.specs.declared.command.Command.{Command}
use Rattle.store_model.specs.declared.command.Command.TheVariants as C
use Rattle.store_model.specs.declared.entry.Entry.{Entry}
use Rattle.store_model.specs.declared.event.Part.{Part}
use Rattle.store_model.specs.declared.facts.Fact.{Fact}
use Rattle.store_model.specs.declared.facts.HandleFact.{HandleFact}
use Rattle.image_text.specs.Lines.{command_tree, image_text}
use Rattle.image_text.specs.Made.{IsMade}
use Rattle.image_text.specs.declared.image.Image.{Image}
use Rattle.image_text.specs.declared.image.ImageHandle.{ImageHandle}
use Rattle.image_text.specs.declared.image.ImageLayer.{ImageLayer}
use Rattle.image_text.specs.declared.image.ImageMark.{ImageMark}
use Rattle.image_text.specs.declared.image.ImageRecord.{ImageRecord}
use Rattle.image_text.specs.declared.image.ImageWatch.{ImageWatch}

-- each text is below the next, by bytes
abbrev pub rise : List Text → Bool
rise [] = true
rise (t ∷ []) = true
rise (t ∷ u ∷ ts) = is_lt (slice_cmp nat_cmp t u) && rise (u ∷ ts)

-- no text stands twice
abbrev pub are_apart : List Text → Bool
are_apart [] = true
are_apart (t ∷ ts) = not (has_text ts t) && are_apart ts

-- names of live things: no more than the limit, each of 1 to 200 bytes, none twice
abbrev pub are_names : ℕ → List Text → Bool
are_names limit names = nat_le (length names) limit && list_all is_short names && are_apart names

-- ---- records

abbrev pub is_link : Option Text → Bool
is_link None = true
is_link (Some id) = is_there id

-- links are ids, which are not empty
abbrev pub has_ids : Field → Bool
has_ids (Leaf value) = true
has_ids (Link id) = is_there id
has_ids (Links ids) = list_all is_link ids

-- the type has the form of a Name and stands for itself alone
abbrev pub is_record : Record → Bool
is_record r = is_name r.type_name && not (is_some (member_at r.fields typename)) && list_all (λ (f : Text × Field). has_ids f.1) r.fields

-- the root is not deleted
abbrev pub is_slot : Text → Option Record → Bool
is_slot id None = not (bytes_eq id root)
is_slot id (Some r) = is_record r

abbrev pub is_image_record : ImageRecord → Bool
is_image_record r = is_there r.id && is_slot r.id r.slot

abbrev pub are_records : List ImageRecord → Bool
are_records records = list_all is_image_record records && rise (map (λ (r : ImageRecord). r.id) records)

-- ---- entries

abbrev pub is_fact : Fact → Bool
is_fact f = is_there f.id && has_ids f.value

abbrev pub has_fact : List Fact → Text → Text → Bool
has_fact facts id key = list_any (λ (f : Fact). bytes_eq f.id id && bytes_eq f.key key) facts

-- a page has a fact under its parent and field key
abbrev pub is_page : List Fact → HandleFact → Bool
is_page facts h = is_name h.page_type && is_name h.info_type && has_fact facts h.parent h.field_key

abbrev pub is_same_command : Command → Option Command → Bool
is_same_command c None = false
is_same_command c (Some d) = tree_eq (command_tree d) (command_tree c)

abbrev pub is_null_value : Plain → Bool
is_null_value P.Null = true
is_null_value (P.Bool b) = false
is_null_value (P.Int z) = false
is_null_value (P.Text s) = false
is_null_value (P.List ts) = false
is_null_value (P.Tree ms) = false

-- where edges are taken out, the edit names no type and no cursor of an edge: its object has no keys for them
abbrev pub is_bare : Command → Bool
is_bare (C.Set id field args value) = true
is_bare (C.Add id field args by) = true
is_bare (C.Link id field args to) = true
is_bare (C.Links id field args to) = true
is_bare (C.Create id of) = true
is_bare (C.Delete id) = true
is_bare (C.AppendNode e) = true
is_bare (C.PrependNode e) = true
is_bare (C.DeleteEdge e) = bytes_eq e.edge_type [] && is_null_value e.cursor

-- the reader of a script's lines takes the command
abbrev pub is_given : Command → Bool
is_given c = is_bare c && is_same_command c (command_of (data_of (command_tree c)))

abbrev pub is_entry : Entry → Bool
is_entry e = list_all is_fact e.facts.facts && list_all (is_page e.facts.facts) e.facts.handles && list_all is_given e.commands

-- ---- watches and marks

abbrev pub is_part : Option Part → Bool
is_part None = true
is_part (Some p) = is_there p.id

abbrev pub whole_mark : ℕ → List ℕ
whole_mark w = cond (nat_lt 0 w) (w ∷ []) []

-- the numbers of the last marks
abbrev pub last_marks : ℕ → List ImageMark → List ℕ
last_marks w marked = whole_mark w ++ map (λ (m : ImageMark). m.at) marked

abbrev pub are_distinct : List ℕ → Bool
are_distinct [] = true
are_distinct (n ∷ ns) = not (list_any (λ k. nat_eq k n) ns) && are_distinct ns

abbrev pub is_mark : ℕ → ImageMark → Bool
is_mark marks m = is_there m.id && nat_lt 0 m.at && nat_le m.at marks

-- where there is a mark, one of the last ones is the latest
abbrev pub has_latest : ℕ → List ℕ → Bool
has_latest marks last = not (nat_lt 0 marks) || list_any (λ k. nat_eq k marks) last

abbrev pub are_marks : ℕ → ℕ → List ImageMark → Bool
are_marks marks w marked =
    list_all (is_mark marks) marked && rise (map (λ (m : ImageMark). m.id) marked) && are_distinct (last_marks w marked) && has_latest marks (last_marks w marked)

-- ---- the whole

abbrev pub are_counts : Image → Bool
are_counts v = nat_lt 0 v.buffer && nat_le v.buffer 100 && nat_le v.lines (2 ^ 30) && nat_le v.marks v.lines && nat_le v.whole v.marks

abbrev pub are_layers : List ImageLayer → Bool
are_layers layers = are_names 1000 (map (λ (l : ImageLayer). l.name) layers) && list_all (λ (l : ImageLayer). is_entry l.entry) layers

abbrev pub are_handles : ℕ → List ImageHandle → Bool
are_handles marks handles = are_names 10000 (map (λ (h : ImageHandle). h.name) handles) && list_all (λ (h : ImageHandle). nat_le h.fresh marks) handles

abbrev pub are_watches : List ImageWatch → Bool
are_watches watches = are_names 10000 (map (λ (w : ImageWatch). w.name) watches) && list_all (λ (w : ImageWatch). is_part w.part) watches

-- each of its lists is as that of an image
pub record IsListed (v : Image) : Type 0 where
  pub counts : are_counts v ≡ true
  pub records : are_records v.records ≡ true
  pub layers : are_layers v.layers ≡ true
  pub handles : are_handles v.marks v.handles ≡ true
  pub released : nat_le (length v.released) v.buffer ≡ true
  pub watches : are_watches v.watches ≡ true
  pub marks : are_marks v.marks v.whole v.marked ≡ true

-- an image: as code holds it, of texts in UTF-8, and listed
pub record IsImage (v : Image) : Type 0 where
  pub made : IsMade v
  pub utf8 : IsUtf8 (image_text v)
  pub listed : IsListed v
