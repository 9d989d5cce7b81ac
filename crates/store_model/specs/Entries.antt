-- Entries: applying one, the ids that it asks for, its weight, and the ids that it names; and folding entries
-- over records.
use Rattle.std.specs.Prelude.{ℕ, ◌+◌, List, [], ◌∷◌, ◌++◌, map, length, Bool, true, false, cond, codes, Option, Some, None}
use Rattle.store_record.specs.gql_plain.Order.{has_text, sorted_texts}
use Rattle.store_record.specs.Keys.{Text}
use Rattle.store_record.specs.declared.field.Field.{Field}
use Rattle.store_record.specs.declared.field.Field.TheVariants.{Leaf, Link, Links}
use Rattle.store_record.specs.declared.record.Record.{Record}
use Rattle.store_model.specs.Records.{Records, live, put}
use Rattle.store_model.specs.Merge.{merge, link_under, below, edges_of, info_id, is_null, has_cursor}
use Rattle.store_model.specs.Updates.{act, act_all, connection_of}
use Rattle.store_record.specs.Keys.{field_key, handle_name}
use Rattle.store_model.specs.declared.command.Command.{Command}
use Rattle.store_model.specs.declared.command.Command.TheVariants as C
use Rattle.store_model.specs.declared.command.EdgeEdit.{EdgeEdit}
use Rattle.store_model.specs.declared.entry.Entry.{Entry}
use Rattle.store_model.specs.declared.facts.Fact.{Fact}
use Rattle.store_model.specs.declared.facts.HandleFact.{HandleFact}

-- ---- applying

abbrev pub merge_all : List HandleFact → Records → Records
merge_all [] m = m
merge_all (h ∷ hs) m = merge_all hs (merge h m)

-- first the facts are put, then the pages are merged in their order, then the commands act in theirs
abbrev pub apply : Entry → Records → Records
apply e m = act_all e.commands (merge_all e.facts.handles (put e.facts.facts m))

-- entries, one after another
abbrev pub fold_entries : List Entry → Records → Records
fold_entries [] m = m
fold_entries (e ∷ es) m = fold_entries es (apply e m)

-- ---- the ids that are asked for

abbrev pub some_ids : List (Option Text) → List Text
some_ids [] = []
some_ids (None ∷ es) = some_ids es
some_ids (Some id ∷ es) = id ∷ some_ids es

abbrev pub some_id : Option Text → List Text
some_id None = []
some_id (Some id) = id ∷ []

-- what a fact, a page or a command asks for: ids, and the ids of lists of edges, as often as they stand there
pub record Looks : Type 0 where
  pub ids : List Text
  pub edges : List Text

abbrev pub no_looks : Looks
no_looks = record { ids = []; edges = [] }

abbrev pub of_ids : List Text → Looks
of_ids ids = record { ids = ids; edges = [] }

abbrev pub looks_and : List Text → Looks → Looks
looks_and ids a = record { ids = ids ++ a.ids; edges = a.edges }

-- what a page that is taken asks for: the server's edges, the old edges where they stay, and the page information
abbrev pub asked_page : Record → List (Option Text) → Looks
asked_page server old = record { ids = some_id (link_under (codes "pageInfo") server); edges = some_ids (edges_of server) ++ some_ids old }

abbrev pub asked_by_cursor : Bool → Text → Record → Record → Looks
asked_by_cursor false info server row = of_ids (info ∷ [])
asked_by_cursor true info server row = looks_and (info ∷ []) (asked_page server (edges_of row))

abbrev pub asked_onto : HandleFact → Record → Option (Text × Record) → Records → Looks
asked_onto h server None m = asked_page server []
asked_onto h server (Some c) m =
    cond (is_null h.before)
    (cond (is_null h.after) (asked_page server [])
    (asked_by_cursor (has_cursor (codes "endCursor") h.after (live (info_id c.0) m)) (info_id c.0) server c.1))
    (cond (is_null h.after)
    (asked_by_cursor (has_cursor (codes "startCursor") h.before (live (info_id c.0) m)) (info_id c.0) server c.1) no_looks)

abbrev pub asked_with_page : HandleFact → Record → Option (Text × Record) → Records → Looks
asked_with_page h parent None m = no_looks
asked_with_page h parent (Some server) m = looks_and (some_id (link_under h.handle_key parent)) (asked_onto h server.1 (below h.handle_key parent m) m)

abbrev pub asked_of_parent : HandleFact → Option Record → Records → Looks
asked_of_parent h None m = no_looks
asked_of_parent h (Some parent) m = looks_and (some_id (link_under h.field_key parent)) (asked_with_page h parent (below h.field_key parent m) m)

abbrev pub asked_by_page : HandleFact → Records → Looks
asked_by_page h m = looks_and (h.parent ∷ []) (asked_of_parent h (live h.parent m) m)

abbrev pub asked_in_connection : Option (Text × Record) → List Text
asked_in_connection None = []
asked_in_connection (Some c) = some_ids (edges_of c.1)

abbrev pub connection_link : EdgeEdit → Option Record → List Text
connection_link e None = []
connection_link e (Some parent) = some_id (link_under (field_key (handle_name e.key) e.filters) parent)

abbrev pub asked_by_edit : EdgeEdit → Records → Looks
asked_by_edit e m = record { ids = e.id ∷ connection_link e (live e.id m); edges = asked_in_connection (connection_of e m) }

abbrev pub asked_by_command : Command → Records → Looks
asked_by_command (C.Set id field args value) m = of_ids (id ∷ [])
asked_by_command (C.Add id field args by) m = of_ids (id ∷ [])
asked_by_command (C.Link id field args to) m = of_ids (id ∷ [])
asked_by_command (C.Links id field args to) m = of_ids (id ∷ [])
asked_by_command (C.Create id of) m = of_ids (id ∷ [])
asked_by_command (C.Delete id) m = of_ids (id ∷ [])
asked_by_command (C.AppendNode e) m = asked_by_edit e m
asked_by_command (C.PrependNode e) m = asked_by_edit e m
asked_by_command (C.DeleteEdge e) m = asked_by_edit e m

abbrev pub asked_by_facts : List Fact → List Looks
asked_by_facts facts = map (λ f. of_ids (f.id ∷ [])) facts

abbrev pub asked_by_pages : List HandleFact → Records → List Looks
asked_by_pages [] m = []
asked_by_pages (h ∷ hs) m = asked_by_page h m ∷ asked_by_pages hs (merge h m)

abbrev pub asked_by_commands : List Command → Records → List Looks
asked_by_commands [] m = []
asked_by_commands (c ∷ cs) m = asked_by_command c m ∷ asked_by_commands cs (act c m)

-- what each fact, page and command of an entry asks for, each on the records where it acts
abbrev pub asked_by_each : Entry → Records → List Looks
asked_by_each e m =
    asked_by_facts e.facts.facts ++ asked_by_pages e.facts.handles (put e.facts.facts m)
    ++ asked_by_commands e.commands (merge_all e.facts.handles (put e.facts.facts m))

abbrev pub ids_of_all : List Looks → List Text
ids_of_all [] = []
ids_of_all (a ∷ rest) = a.ids ++ a.edges ++ ids_of_all rest

-- the ids whose slot an entry asks for
abbrev pub looks : Entry → Records → List Text
looks e m = ids_of_all (asked_by_each e m)

-- the texts that are not among others
abbrev pub not_among : List Text → List Text → List Text
not_among others [] = []
not_among others (t ∷ ts) = cond (has_text others t) (not_among others ts) (t ∷ not_among others ts)

-- an id of a list of edges counts as often as it stands there, every other id once
abbrev pub number_asked : Looks → ℕ
number_asked a = length a.edges + length (sorted_texts (not_among a.edges a.ids))

abbrev pub weights : List Looks → ℕ
weights [] = 0
weights (a ∷ rest) = 1 + number_asked a + weights rest

-- each fact, page and command counts one, and one more for each id that it asks for
abbrev pub weight : Entry → Records → ℕ
weight e m = weights (asked_by_each e m)

-- ---- the ids that an entry names

abbrev pub ids_in : Field → List Text
ids_in (Leaf value) = []
ids_in (Link id) = id ∷ []
ids_in (Links ids) = some_ids ids

abbrev pub named_by_facts : List Fact → List Text
named_by_facts [] = []
named_by_facts (f ∷ fs) = f.id ∷ ids_in f.value ++ named_by_facts fs

abbrev pub named_by_command : Command → List Text
named_by_command (C.Set id field args value) = id ∷ []
named_by_command (C.Add id field args by) = id ∷ []
named_by_command (C.Link id field args to) = id ∷ some_id to
named_by_command (C.Links id field args to) = id ∷ some_ids to
named_by_command (C.Create id of) = id ∷ []
named_by_command (C.Delete id) = id ∷ []
named_by_command (C.AppendNode e) = e.id ∷ e.node ∷ []
named_by_command (C.PrependNode e) = e.id ∷ e.node ∷ []
named_by_command (C.DeleteEdge e) = e.id ∷ e.node ∷ []

abbrev pub named_by_commands : List Command → List Text
named_by_commands [] = []
named_by_commands (c ∷ cs) = named_by_command c ++ named_by_commands cs

-- the ids of its facts and of the links in them, the parents of its pages, and the ids of its commands
abbrev pub ids_named : Entry → List Text
ids_named e = named_by_facts e.facts.facts ++ map (λ h. h.parent) e.facts.handles ++ named_by_commands e.commands

-- those of all entries
abbrev pub all_named : List Entry → List Text
all_named [] = []
all_named (e ∷ es) = ids_named e ++ all_named es
