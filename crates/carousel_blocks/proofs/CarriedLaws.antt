-- The message of a section, by the relation between its bytes and the message's fields.
use Rattle.std.proofs.Common.{◌≡◌, ℕ, List, refl, sym, ap, ap₂, ◌∙◌}
use Rattle.std.specs.Prelude.{◌↔◌, Option, Some, None, Result, Ok, Err}
use Rattle.bml_bytes.specs.declared.refusals.TableFault.{TableFault}
use Rattle.dsmcc_messages.specs.declared.dii.Dii.{Dii}
use Rattle.dsmcc_messages.specs.Dii.{IsDii}
use Rattle.dsmcc_messages.specs.Ddb.{DataBlock, IsDdb}
use Rattle.dsmcc_messages.specs.Reading.{dii_in, ddb_in}
use Rattle.carousel_blocks.specs.Message.{Message, Indication, Data, CarriesMessage, message_with, message_of}
use Rattle.carousel_blocks.proofs.StageLaws.{carries_no_dii}

module _ (diis : (section : List ℕ) (dii : Dii) → IsDii section dii ↔ (dii_in section ≡ Ok dii))
    (ddbs : (section : List ℕ) (ddb : DataBlock) → IsDdb section ddb ↔ (ddb_in section ≡ Ok ddb)) where
  pub read_message : (section : List ℕ) (message : Message) → CarriesMessage section message → message_of section ≡ Some message
  unfolding message_of
  read_message section (Indication dii) carried = ap (λ r. message_with r (ddb_in section)) ((diis section dii).0 carried)
  read_message section (Data block) carried =
      let is = (ddbs section block).0 carried in
      let none = carries_no_dii section block (sym is) in
      ap₂ (λ (r : Result Dii TableFault) (q : Result DataBlock TableFault). message_with r q) none.1 is

  pub message_carried : (section : List ℕ) (message : Message) → message_of section ≡ Some message → CarriesMessage section message
  unfolding message_of
  message_carried section message e = by (dii_in section) (ddb_in section) refl refl message e where
    by : (r : Result Dii TableFault) (q : Result DataBlock TableFault) → dii_in section ≡ r → ddb_in section ≡ q → (message : Message) → message_with r q ≡ Some message → CarriesMessage section message
    by (Ok dii) q a b (Indication other) e = let p : dii ≡ other = cc in (diis section other).1 (a ∙ ap (λ d. Ok d) p)
    by (Ok dii) q a b (Data block) e = absurd (let p : Indication dii ≡ Data block = cc in cc)
    by (Err f) (Ok block) a b (Data other) e = let p : block ≡ other = cc in (ddbs section other).1 (b ∙ ap (λ d. Ok d) p)
    by (Err f) (Ok block) a b (Indication dii) e = absurd (let p : Data block ≡ Indication dii = cc in cc)
    by (Err f) (Err g) a b message e = cc
