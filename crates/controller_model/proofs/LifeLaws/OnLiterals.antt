-- SPDX-License-Identifier: MIT OR Apache-2.0
-- A name under which words of literal octets compute.
use Rattle.octets.specs.Front.{octet_at, counted_at}
use Rattle.octets.specs.Walk.{walk}
use Rattle.bssmap_codec.specs.BssmapType.{bssmap_type}
use Rattle.bssmap_codec.specs.Reference.{reference_at, references_at}
use Rattle.bssmap_codec.specs.SccpReading.{part_at, option_at, data_in, user_data_at, request_at, fixed_references_at, refused_at, data_behind_at, data_form_at, sccp_reading}
use Rattle.bssmap_codec.specs.SccpType.{sccp_type}
use Rattle.bssmap_codec.specs.BssapReading.{elements_of, breaks_off, needed_value, needed_octet, rr_cause_in, layer3_at, cause_at, assignment_request_at, assignment_complete_at, assignment_failure_at, handover_performed_at, reject_at, complete_layer3_at, message_at, management_at, transfer_at, bssap_reading}
use Rattle.rsl_codec.specs.RslReading.{elements_of as rsl_elements_of, breaks_off as rsl_breaks_off, channel_only_at, link_at, data_at, message_at as rsl_message_at, rsl_reading}
use Rattle.rsl_codec.specs.RslType.{rsl_type}
use Rattle.controller_model.specs.Reading.{word_of}

unfoldable pub on_literals : Unit {0}
unfolding octet_at counted_at walk bssmap_type reference_at references_at part_at option_at data_in user_data_at request_at fixed_references_at refused_at data_behind_at data_form_at sccp_reading sccp_type elements_of breaks_off needed_value needed_octet rr_cause_in layer3_at cause_at assignment_request_at assignment_complete_at assignment_failure_at handover_performed_at reject_at complete_layer3_at message_at management_at transfer_at bssap_reading rsl_elements_of rsl_breaks_off channel_only_at link_at data_at rsl_message_at rsl_reading rsl_type word_of
on_literals = tt
