use Rattle.store_record.proofs.Readable.{field_keys-differ}
use Rattle.store_record.proofs.keys.field_keys_differ.Goals as goal

pub returns : goal.returns
returns c = field_keys-differ
