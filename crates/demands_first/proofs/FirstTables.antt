-- The proof of what specs/FirstTables.antt states.
use Rattle.table_laws.proofs.Facts.CheckExact.{table_check_refuses_first, table_check_accepted, table_check_accepts}
use Rattle.alphabet.proofs.Facts.Glyphs.{symbol_place, symbol_none, allowed_exact, refused_exact}
use Rattle.demands_first.proofs.Facts.FirstPlain.{table_turns, lookup_turns, pack_turns, word_turns, word_place, encode_turns}
use Rattle.demands_first.specs.FirstTables.{TableOperations}

pub table_operations : TableOperations
table_operations = record {
  check = table_turns;
  check_first = table_check_refuses_first;
  check_none = λ m s b. (table_check_accepted m s b, table_check_accepts m s);
  lookup = lookup_turns;
  pack = pack_turns;
  word = word_turns;
  word_first = word_place;
  symbol_for_holds = symbol_place;
  symbol_none = symbol_none;
  encode = encode_turns;
  encode_glyph = allowed_exact;
  encode_first = refused_exact;
}
