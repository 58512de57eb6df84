-- SPDX-License-Identifier: MIT OR Apache-2.0
-- Each message of a mobile's data links has 1 to 251 octets.
use Rattle.std.specs.Prelude.{Some}
use Rattle.std.specs.List.{AllByRecursion}
use Rattle.link_model.specs.AirLink.{message_in}
use Rattle.mobile_end.specs.DataLinkState.{DataLinkState}
use Rattle.mobile_end.specs.MobileState.{MobileState}
use Rattle.rsl_codec.specs.Rsl.{IsL3}

pub record Sized (link : DataLinkState) : Type 0 where
  pub waiting : AllByRecursion (λ message. IsL3 (Some message)) link.waiting
  pub air : IsL3 (message_in link.air)

pub record HasSized (mobile : MobileState) : Type 0 where
  pub zero : Sized mobile.zero
  pub three : Sized mobile.three
