-- Reading an image line by line.
use Rattle.std.specs.Prelude.{Option, Some, None, option_and_then}
use Rattle.store_model.specs.gql_plain.FromJson.{is_whole, plain_tree}
use Rattle.store_model.specs.gql_plain.Tree.{Tree, null, truth, whole, text, list, object}
use Rattle.serde_json.specs.Data as J
use Rattle.serde_json.specs.Read.{read}
use Rattle.store_model.specs.store_record.Keys.{Text}
use Rattle.store_model.specs.Events.{tree_list, where_true}
use Rattle.image_text.specs.Lines.{Row}
use Rattle.image_text.specs.declared.image.Image.{Image}
use Rattle.image_rows.specs.Reading.{begun, take_row}

-- the items of a list
abbrev pub row_of_tree : Tree → Option Row
row_of_tree null = None
row_of_tree (truth b) = None
row_of_tree (whole z) = None
row_of_tree (text s) = None
row_of_tree (list ts) = Some (tree_list ts)
row_of_tree (object ms) = None

abbrev pub row_of_data : J.Data → Option Row
row_of_data d = where_true (is_whole d) (row_of_tree (plain_tree d))

-- the row that a line is, blanks and all
abbrev pub row_of_line : Text → Option Row
row_of_line line = option_and_then row_of_data (read line)

-- the image that a first line begins
abbrev pub begun_by : Text → Option Image
begun_by line = option_and_then begun (row_of_line line)

-- the image with what a line says
abbrev pub take_line : Text → Image → Option Image
take_line line v = option_and_then (λ row. take_row row v) (row_of_line line)
