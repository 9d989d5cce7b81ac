-- The texts of a page, as code holds them.
use Rattle.image_rows.specs.Reading as reading
use Rattle.image_rows.specs.declared.row.Names.{Names}

abbrev pub names_seen : Names → reading.Names
names_seen n = record {
  parent = n.parent.now;
  handle_key = n.handle_key.now;
  field_key = n.field_key.now;
  page_type = n.page_type.now;
  info_type = n.info_type.now;
}
