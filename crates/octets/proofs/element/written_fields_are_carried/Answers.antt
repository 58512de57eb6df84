-- SPDX-License-Identifier: MIT OR Apache-2.0
use Rattle.octets.proofs.Fields.{elements_of, fields_are, fields_carried}
use Rattle.octets.proofs.element.written_fields_are_carried.Goals as goal

pub returns : goal.returns
returns c = λ table fields more fits distinct stops. (elements_of fields, fields_are table fields more fits stops, fields_carried fields distinct)
