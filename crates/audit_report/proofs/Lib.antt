mod Taking
mod Written
mod Besides
mod NoFaults
mod Piecewise
mod Rooms
